-- What a sweep does with one client.
use Rattle.std.specs.Prelude.{◌≡◌, ℕ, ◌+◌, IsFalse, IsTrue, List, [], ◌∷◌, ◌++◌}
use Rattle.nfs_core.specs.Events.{IsWithoutRoom, expire_of}
use Rattle.nfs_core.specs.Lawful as lawful
use Rattle.nfs_core.specs.Server.{Server}
use Rattle.nfs_core.specs.declared.core_error.CoreError.{CoreError}
use Rattle.nfs_leases.specs.BookEvent.{BookEvent, Look, Close}
use Rattle.nfs_leases.specs.declared.visit_case.VisitCase.{VisitCase}
use Rattle.nfs_leases.specs.declared.visit_case.VisitCase.TheVariants as cases
use Rattle.nfs_leases.specs.declared.closing.Closing.TheVariants as closing
use Rattle.nfs_leases.specs.declared.lease_state.LeaseState.TheVariants as lease_state
use Rattle.nfs_leases.specs.declared.swept.Swept.{Swept}
use Rattle.nfs_state.specs.Lease.{is_over}
use Rattle.nfs_state.specs.State.{History}
use Rattle.nfs_state.specs.Stored.{meaning}
use Rattle.nfs_state.specs.declared.entry.Entry.{Entry}
use Rattle.nfs_state.specs.declared.entry.Entry.TheVariants as entries

-- the client, the moment of its last renewal that the look showed, and the case that it fell in
pub record Visit : Type 0 where
  pub client : ℕ
  pub seen : ℕ
  pub case : VisitCase

-- what was asked of the book: a look that showed the lease open, and in two cases an attempt to close it
abbrev pub events_by : VisitCase → ℕ → ℕ → ℕ → List BookEvent
events_by cases.Expired client seen now =
    Look client (lease_state.Open seen) ∷ Close client seen now closing.Closed ∷ []
events_by cases.Kept client seen now = Look client (lease_state.Open seen) ∷ []
events_by cases.Changed client seen now =
    Look client (lease_state.Open seen) ∷ Close client seen now closing.Changed ∷ []
events_by cases.Refused client seen now = Look client (lease_state.Open seen) ∷ []

abbrev pub events_of : ℕ → Visit → List BookEvent
events_of now visit = events_by visit.case visit.client visit.seen now

-- the entries of the closings among these calls, in order
abbrev pub expiries : List BookEvent → List Entry
expiries [] = []
expiries (Close client seen now closing.Closed ∷ events) =
    entries.Expire (expire_of client seen now) ∷ expiries events
expiries (_ ∷ events) = expiries events

-- the journal with these entries at the end
abbrev pub with_entries : List Entry → History → History
with_entries more journal = record journal { entries = journal.entries ++ more }

-- The journal gained just these entries, and each may come where it comes: they lead from what was stored to what is.
pub record Gains (more : List Entry) (old new : Server) : Type 0 where
  pub journal : new.journal ≡ with_entries more old.journal
  pub leads : lawful.Leads old.journal (meaning old.stored) more (meaning new.stored)

-- The client fell in this case for a reason: the lease isn't over in the case Kept, and is over in all others. In the
-- case Refused the server that the visit found had no room for an entry.
abbrev pub IsRightBy : VisitCase → ℕ → ℕ → Server → Type 0
IsRightBy cases.Expired seen now server = IsTrue (is_over seen server.journal.lease now)
IsRightBy cases.Kept seen now server = IsFalse (is_over seen server.journal.lease now)
IsRightBy cases.Changed seen now server = IsTrue (is_over seen server.journal.lease now)
IsRightBy cases.Refused seen now server =
    IsTrue (is_over seen server.journal.lease now)
    × ((error : CoreError) × IsWithoutRoom server error)

-- one client more in the count of this case
abbrev pub with_case : Swept → VisitCase → Swept
with_case swept cases.Expired = record swept { expired = swept.expired + 1 }
with_case swept cases.Kept = record swept { kept = swept.kept + 1 }
with_case swept cases.Changed = record swept { changed = swept.changed + 1 }
with_case swept cases.Refused = record swept { refused = swept.refused + 1 }

-- all clients that were counted
abbrev pub total : Swept → ℕ
total swept = swept.expired + swept.kept + swept.changed + swept.refused
