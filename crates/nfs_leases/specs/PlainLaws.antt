-- What follows for a book that is a plain list.
use Rattle.std.specs.Prelude.{◌≡◌, ℕ}
use Rattle.nfs_leases.specs.declared.closing.Closing.{Closing}
use Rattle.nfs_leases.specs.declared.closing.Closing.TheVariants as closing
use Rattle.nfs_leases.specs.declared.lease_state.LeaseState.TheVariants as lease_state
use Rattle.nfs_leases.specs.BookEvent.{Look, Close}
use Rattle.nfs_leases.specs.PlainBook.{PlainBook, Happens}

-- a lease that a look shows open, and renewed last at `seen`, is closed by an attempt that comes next
abbrev pub SeenLeasesClose : Type 0
SeenLeasesClose =
    (old mid new : PlainBook) (client seen now : ℕ) (answer : Closing)
    → Happens old (Look client (lease_state.Open seen)) mid
    → Happens mid (Close client seen now answer) new
    → answer ≡ closing.Closed
