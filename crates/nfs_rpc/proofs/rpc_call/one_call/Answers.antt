use Rattle.nfs_rpc.proofs.Calls.{one_call}
use Rattle.nfs_rpc.proofs.rpc_call.one_call.Goals as goal

pub returns : goal.returns
returns c = one_call c.one_request_is_encoded.ensures.compound
