use Rattle.std.proofs.Common.{◌≡◌, ◌≤◌, length}
use Rattle.std.specs.Prelude.{vec_capacity}
use Rattle.nfs_server.specs.Batch.{waiting_bytes}
use Rattle.nfs_server.proofs.replies.Replies.write_answered.Given as goal

-- what waits stays the same: each reply moves from the calls to the bytes that were gathered
abbrev pub invariant-loop-call : goal.invariant-loop-call
invariant-loop-call l = record {
  waiting : waiting_bytes l.self.gathered.items l.self.answered.items ≡ waiting_bytes l.fn.self.gathered.items l.fn.self.answered.items;
  room : vec_capacity l.fn.self.gathered ≤ vec_capacity l.self.gathered;
  pending : l.self.pending.items ≡ l.fn.self.pending.items;
}

abbrev pub decreases-loop-call : goal.decreases-loop-call
decreases-loop-call l = length l.self.answered.items
