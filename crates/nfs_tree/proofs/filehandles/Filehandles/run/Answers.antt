use Rattle.std.proofs.Common.{◌≤◌, length, subst}
use Rattle.nfs_tree.proofs.Short.{effect_answers}
use Rattle.nfs_tree.specs.Exports.{export_seen}
use Rattle.nfs_tree.proofs.filehandles.Filehandles.run.Goals as goal
use Rattle.nfs_xdr.specs.OpResult.{op_result}
use Rattle.nfs_xdr.specs.Opnum.{answer_limit}
use Rattle.nfs_xdr.specs.declared.op_result.OpResult.{OpResult}
use Rattle.nfs_xdr.specs.declared.opnum.Opnum.{Opnum}

pub fits-requires : goal.fits-requires
fits-requires c =
    record { short = (effect_answers (export_seen c.args.export.now) c.args.self.now c.args.op.now _ c.answer-answer.ensures.effect).0 }

pub returns-clause-short : goal.returns-clause-short
returns-clause-short c =
    let answer : OpResult = c.answer-answer.result in
    let IsWithin : Opnum → Type 0 = λ o. length (op_result.encoding answer) ≤ answer_limit o in
    subst IsWithin (effect_answers (export_seen c.args.export.now) c.args.self.now c.args.op.now _ c.answer-answer.ensures.effect).1 c.fits.ensures.short
