use Rattle.std.proofs.Common.{length}
use Rattle.nfs_server.proofs.replies.Replies.clear_all.Given as goal

abbrev pub decreases-loop-call : goal.decreases-loop-call
decreases-loop-call l = length l.self.pending.items
