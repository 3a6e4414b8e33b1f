use Rattle.nfs_rpc.proofs.Limits.{header_shortens}
use Rattle.nfs_rpc.proofs.rpc_call.read_header.Goals as goal

pub returns-clause-shorter : goal.returns-clause-shorter
returns-clause-shorter c = header_shortens (λ x. (x.0, x.1.now)) c.args.bytes.now c.header_from.result c.header_from.ensures
