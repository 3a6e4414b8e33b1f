use Rattle.std.proofs.Common.{subst}
use Rattle.nfs_rpc.specs.RpcCall.{IsCall}
use Rattle.nfs_server.specs.PendingCall.{PendingView}
use Rattle.nfs_server.proofs.pending_call.PendingCall.into_parts.Goals as goal

pub returns-clause-call : goal.returns-clause-call
returns-clause-call c = subst (λ (p : PendingView). IsCall p.message c.self.inside.call) c.self.view_is c.self.invariant.0.0
