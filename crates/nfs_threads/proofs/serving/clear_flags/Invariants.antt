use Rattle.std.proofs.Common.{◌≡◌, vec_len}
use Rattle.nfs_threads.proofs.serving.clear_flags.Given as goal

abbrev pub invariant-loop : goal.invariant-loop
invariant-loop l = vec_len l.flags ≡ l.counter
