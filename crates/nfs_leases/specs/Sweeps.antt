-- What a sweep does.
use Rattle.std.specs.Prelude.{◌≡◌, ℕ, ◌<◌, Bool, ◌==◌, List, [], ◌∷◌, ◌++◌, length, map, Option, Some, None, ⊤}
use Rattle.std.specs.List.{list_any}
use Rattle.nfs_core.specs.Events.{IsRevoked, IsWithoutRoom, IsWithoutRoomForOwner, NoneIsDue, NoneIsIdle, forget_of, revoke_of}
use Rattle.nfs_core.specs.Server.{AreAlike, Enters, Server}
use Rattle.nfs_core.specs.declared.core_error.CoreError.{CoreError}
use Rattle.nfs_forms.specs.declared.open_owner.OpenOwner.{OpenOwner}
use Rattle.nfs_owners.specs.Registry.{is_live}
use Rattle.nfs_leases.specs.BookEvent.{BookEvent, AllHappen}
use Rattle.nfs_leases.specs.Visit.{Gains, IsRightBy, Visit, events_of, expiries, with_case}
use Rattle.nfs_leases.specs.declared.swept.Swept.{Swept}
use Rattle.nfs_state.specs.declared.entry.Entry.{Entry}
use Rattle.nfs_state.specs.declared.entry.Entry.TheVariants as entries

-- the visit is the client's
abbrev pub is_of : ℕ → Visit → Bool
is_of client visit = visit.client == client

-- the visits' clients go up, each above the one before and the first one above this number
abbrev pub Ascend : ℕ → List Visit → Type 0
Ascend after [] = ⊤
Ascend after (visit ∷ visits) = (after < visit.client) × Ascend visit.client visits

-- what was asked of the book in these visits, in order
abbrev pub events_of_all : ℕ → List Visit → List BookEvent
events_of_all now [] = []
events_of_all now (visit ∷ visits) = events_of now visit ++ events_of_all now visits

-- one visit, with the server that it found and the one that it left
pub record IsVisit (now : ℕ) (visit : Visit) (old new : Server) : Type 0 where
  pub right : IsRightBy visit.case visit.seen now old
  pub gains : Gains (expiries (events_of now visit)) old new

-- these visits, one after another
abbrev pub AreVisits : ℕ → List Visit → Server → Server → Type 0
AreVisits now [] old new = new ≡ old
AreVisits now (visit ∷ visits) old new =
    (mid : Server) × IsVisit now visit old mid × AreVisits now visits mid new

-- the visits counted by case, after what was counted before
abbrev pub tally : Swept → List Visit → Swept
tally swept [] = swept
tally swept (visit ∷ visits) = tally (with_case swept visit.case) visits

abbrev pub none_swept : Swept
none_swept = record {
  expired = 0;
  kept = 0;
  changed = 0;
  refused = 0;
  revoked = 0;
  forgotten = 0;
  stopped = None;
}

-- a core, and the book of its clients' leases
pub record LeasedServer (Book : Type 0) : Type 0 where
  pub core : Server
  pub book : Book

abbrev pub leased_server : {Book : Type 0} → Server → Book → LeasedServer Book
leased_server core book = record { core = core; book = book }

-- The part of a sweep in which clients end, in these visits.
pub record EndsClients {Book : Type 0} (happens : Book → BookEvent → Book → Type 0) (now : ℕ)
    (visits : List Visit) (old new : LeasedServer Book) : Type 0 where
  -- each client that was live before has a visit, and nobody else has; each has one, as they go up
  pub each : (client : ℕ)
      → list_any (is_of client) visits ≡ is_live client old.core.stored.clients
  pub once : Ascend 0 visits
  -- each visit was right where it came
  pub right : AreVisits now visits old.core new.core
  -- the book went through just the visits' calls, and the journal gained just the entries of the closings among these
  pub events : AllHappen happens old.book (events_of_all now visits) new.book
  pub entries : Gains (expiries (events_of_all now visits)) old.core new.core

-- the entries of the ends of the delegations with these numbers
abbrev pub revocations : ℕ → List ℕ → List Entry
revocations now numbers = map (λ number. entries.Revoke (revoke_of number now)) numbers

-- the delegations with these numbers are revoked, one after another
abbrev pub AreRevoked : ℕ → List ℕ → Server → Server → Type 0
AreRevoked now [] old new = new ≡ old
AreRevoked now (number ∷ numbers) old new =
    (mid : Server) × IsRevoked old mid now (Some number) × AreRevoked now numbers mid new

-- What came of the last attempt to revoke, on the server that it found. If the sweep doesn't stop, no delegation is due
-- any more. If it stops with an error, a delegation is due still, but there was no room for an entry: the journal was
-- full, or memory ran out, as the error tells.
abbrev pub IsLastAttempt : Option CoreError → ℕ → Server → Server → Type 0
IsLastAttempt None now found new = NoneIsDue new now × (new ≡ found)
IsLastAttempt (Some error) now found new = (NoneIsDue new now → ⊥)
    × AreAlike found new
    × IsWithoutRoom found error

-- The part of a sweep in which the delegations with these numbers are revoked. It stops, or goes on until none is due.
pub record RevokesDue (now : ℕ) (numbers : List ℕ) (stopped : Option CoreError) (old new : Server)
    : Type 0 where
  pub found : Server
  -- each was right where it came: it was due, and of those that were due it had the least number
  pub right : AreRevoked now numbers old found
  pub last : IsLastAttempt stopped now found new
  -- the journal gained just their entries
  pub entries : Gains (revocations now numbers) old new

-- the entries by which these open owners are forgotten
abbrev pub forgettings : ℕ → List OpenOwner → List Entry
forgettings now owners = map (λ owner. entries.Forget (forget_of owner now)) owners

-- these open owners are forgotten, one after another
abbrev pub AreForgotten : ℕ → List OpenOwner → Server → Server → Type 0
AreForgotten now [] old new = new ≡ old
AreForgotten now (owner ∷ owners) old new =
    (mid : Server)
    × Enters old mid (entries.Forget (forget_of owner now)) (length old.journal.entries)
    × AreForgotten now owners mid new

-- What came of the last attempt to forget, on the server that it found. If the sweep doesn't stop, no owner may be
-- forgotten any more. If it stops with an error, an owner may be still, but there was no room for an entry: the journal
-- was full, or it was not and memory ran out for the entry or the owner's name, as the error tells.
abbrev pub IsLastForgetting : Option CoreError → ℕ → Server → Server → Type 0
IsLastForgetting None now found new = NoneIsIdle new now × (new ≡ found)
IsLastForgetting (Some error) now found new = (NoneIsIdle new now → ⊥)
    × AreAlike found new
    × IsWithoutRoomForOwner found.journal error

-- The part of a sweep in which these open owners are forgotten. It stops, or goes on until none may be forgotten.
pub record ForgetsIdle (now : ℕ) (owners : List OpenOwner) (stopped : Option CoreError)
    (old new : Server) : Type 0 where
  pub found : Server
  -- each was right where it came: it could be forgotten, and of those that could be the least entry had recorded it
  pub right : AreForgotten now owners old found
  pub last : IsLastForgetting stopped now found new
  -- the journal gained just their entries
  pub entries : Gains (forgettings now owners) old new

-- The part of a sweep in which these open owners are forgotten, unless the sweep had halted at a delegation: then no
-- owner is forgotten, and the sweep has stopped for that reason.
abbrev pub ForgetsUnless : Option CoreError → ℕ → List OpenOwner → Option CoreError
    → Server → Server → Type 0
ForgetsUnless (Some error) now owners stopped old new =
    (owners ≡ []) × (stopped ≡ Some error) × (new ≡ old)
ForgetsUnless None now owners stopped old new = ForgetsIdle now owners stopped old new

-- The entries of a sweep: the ends of clients in these visits, then those of the delegations with these numbers, and
-- then those by which these open owners are forgotten.
abbrev pub entries_of_sweep : ℕ → List Visit → List ℕ → List OpenOwner → List Entry
entries_of_sweep now visits numbers owners =
    expiries (events_of_all now visits) ++ (revocations now numbers ++ forgettings now owners)

-- A sweep, in its parts, and how it was counted. First clients end, then delegations are revoked, and then open owners
-- are forgotten; the book stays as it is at these two.
pub record Sweeps {Book : Type 0} (happens : Book → BookEvent → Book → Type 0) (now : ℕ)
    (old : LeasedServer Book) (swept : Swept) (new : LeasedServer Book) : Type 0 where
  pub visits : List Visit
  pub numbers : List ℕ
  pub owners : List OpenOwner
  pub ended : Server
  pub revoked : Server
  -- why it stopped at a delegation, if it did
  pub halted : Option CoreError
  pub ends : EndsClients happens now visits old (leased_server ended new.book)
  pub revokes : RevokesDue now numbers halted ended revoked
  pub forgets : ForgetsUnless halted now owners swept.stopped revoked new.core
  -- at the end no delegation is due, unless it stopped at one
  pub due : halted ≡ None → NoneIsDue new.core now
  pub counts : swept ≡ record (tally none_swept visits) {
    revoked = length numbers;
    forgotten = length owners;
    stopped = swept.stopped;
  }
