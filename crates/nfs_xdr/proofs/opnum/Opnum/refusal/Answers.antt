use Rattle.std.proofs.Common.{subst, sym}
use Rattle.nfs_xdr.specs.OpResult as results
use Rattle.nfs_xdr.proofs.Refusals.{refused_fits}
use Rattle.nfs_xdr.proofs.opnum.Opnum.refusal.Goals as goal

pub returns-in-Unsupported-clause-form : goal.returns-in-Unsupported-clause-form
returns-in-Unsupported-clause-form c =
    subst results.op_result.Fits (sym c.refused-in-Unsupported.ensures) (refused_fits c.in-Unsupported.op c.args.refusal)
