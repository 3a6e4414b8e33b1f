use Rattle.nfs_rpc.proofs.Calls.{call_stands}
use Rattle.nfs_rpc.proofs.rpc_call.read_call.Goals as goal

pub returns-clause-call : goal.returns-clause-call
returns-clause-call c = call_stands c.one_request_is_encoded.ensures.compound c.args.message.now c.call_from.result c.call_from.ensures.call
