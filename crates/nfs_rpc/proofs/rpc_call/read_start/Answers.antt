use Rattle.nfs_rpc.proofs.Limits.{start_shortens}
use Rattle.nfs_rpc.proofs.rpc_call.read_start.Goals as goal

pub returns-clause-shorter : goal.returns-clause-shorter
returns-clause-shorter c = start_shortens (λ x. (x.0, x.1.now)) c.args.bytes.now c.start_from.result c.start_from.ensures
