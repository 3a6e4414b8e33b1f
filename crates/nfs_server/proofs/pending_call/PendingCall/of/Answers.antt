use Rattle.std.proofs.Common.{ℕ, List, length, ap, arith, subst}
use Rattle.nfs_rpc.specs.RpcCall.{IsCall}
use Rattle.nfs_server.proofs.Batching.{within_limits}
use Rattle.nfs_server.proofs.pending_call.PendingCall.of.Goals as goal

pub invariant_of-result : goal.invariant_of-result
invariant_of-result c =
    let value = c.as_slice.ensures.value in
    let short = ap (λ (m : List ℕ). length m) value in (
      (
        subst (λ (m : List ℕ). IsCall m c.read_call-call.result) value c.read_call-call.ensures.call,
        within_limits (length c.as_slice.result.now) c.read_call-call.result (omega (arith, short, c.requires)) c.read_call-call.ensures.limits,
      ),
      c.in_ok-results.ensures,
    )
