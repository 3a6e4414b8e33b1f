use Rattle.std.proofs.Common.{◌≡◌}
use Rattle.nfs_threads.proofs.retry.spawn_again.Given as goal

-- what came back is the closure
abbrev pub invariant-loop : goal.invariant-loop
invariant-loop g l = l.next ≡ l.fn.closure
