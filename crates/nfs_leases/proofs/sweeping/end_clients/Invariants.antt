use Rattle.std.proofs.Common.{◌≡◌, ℕ, ◌-◌, List, Option, Some, None}
use Rattle.nfs_core.specs.LiveClients.{AreOfOneRun}
use Rattle.nfs_core.specs.Server.{IsLawful}
use Rattle.nfs_leases.specs.BookOf.{IsBookOf}
use Rattle.nfs_leases.specs.Visit.{Visit}
use Rattle.nfs_leases.proofs.Comes.{Comes}
use Rattle.nfs_leases.proofs.sweeping.end_clients.Given as goal
use Rattle.nfs_state.specs.Stored.{meaning}

-- how far the next client is from the last number that there may be
abbrev left : Option ℕ → ℕ
left None = 0
left (Some client) = 4294967296 - client

abbrev pub invariant-loop-next : goal.invariant-loop-next
invariant-loop-next g l =
    (upto : ℕ) × (visits : List Visit)
    × Comes g.B.LeaseBook.happens l.now upto l.fn.core l.fn.book l.swept visits l.core l.book l.next
    × IsBookOf (g.B.LeaseBook.is_open l.book) (g.B.LeaseBook.was_opened l.book) (g.B.LeaseBook.lease l.book) l.core
    × AreOfOneRun l.core.journal (meaning l.core.stored)
    × IsLawful l.core
    × (l.core.recalls ≡ l.fn.core.recalls)

abbrev pub decreases-loop-next : goal.decreases-loop-next
decreases-loop-next g l = left l.next
