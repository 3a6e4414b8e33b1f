use Rattle.std.proofs.lemmas.Result.{err_from_is_err_and}
use Rattle.nfs_xdr.proofs.Compounds.{head_tells}
use Rattle.nfs_xdr.proofs.compound.compound_from.Goals as goal

pub returns-in_err-tag-clause-memory : goal.returns-in_err-tag-clause-memory
returns-in_err-tag-clause-memory c memory =
    let p = err_from_is_err_and c.from_residual.result c.from_residual.ensures.1 in
    absurd (head_tells c.args.bytes.now c.from_residual.result p.0 p.1 (rw p.2 c.in_err-tag.ensures) memory)
