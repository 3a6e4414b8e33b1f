use Rattle.std.proofs.Common.{ℕ, List, ap, length, arith}
use Rattle.nfs_server.specs.Batch.{waiting_bytes}
use Rattle.nfs_server.proofs.Batching.{waiting-length}
use Rattle.nfs_server.proofs.replies.Replies.write_answered.Goals as goal

pub write-requires : goal.write-requires
write-requires c =
    let now = c.loop-call.self in
    let rest = c.pop_front.new.self.items in
    omega (arith, c.requires, c.loop-call.invariant.room, waiting-length now.gathered.items c.in-Some.call rest, ap (λ (a : List (List ℕ)). length (waiting_bytes now.gathered.items a)) c.in-Some.ensures.items, ap (λ (w : List ℕ). length w) c.loop-call.invariant.waiting)
