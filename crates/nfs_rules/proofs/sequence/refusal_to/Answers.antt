use Rattle.std.proofs.Common.{ap, ◌∙◌}
use Rattle.nfs_rules.proofs.Sequencing.{refusal_sendable}
use Rattle.nfs_xdr.specs.OpResult.{refusal_of}
use Rattle.nfs_rules.proofs.sequence.refusal_to.Goals as goal

pub returns-clause-sendable : goal.returns-clause-sendable
returns-clause-sendable c =
    refusal_sendable c.args.op.now c.args.refusal c.refusal.result c.requires (c.refusal.ensures.value ∙ ap (λ o. refusal_of o c.args.refusal) c.opnum.ensures)
