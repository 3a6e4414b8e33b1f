-- A book has the leases of a core's clients.
use Rattle.std.specs.Prelude.{◌≡◌, ℕ, ⊤, Bool, IsFalse, IsTrue, List, [], ◌∷◌, Option, Some, None}
use Rattle.nfs_core.specs.Server.{Server}
use Rattle.nfs_core.specs.declared.entered.Entered.{Entered}
use Rattle.nfs_owners.specs.LiveClients.{can_become_live}
use Rattle.nfs_owners.specs.Registry.{is_live}
use Rattle.nfs_owners.specs.declared.live_change.LiveChange.{LiveChange}
use Rattle.nfs_owners.specs.declared.live_change.LiveChange.TheVariants as changes
use Rattle.nfs_leases.specs.BookEvent.{BookEvent, IsAloneIn, Open, Retire}

-- A book with these open leases, these that were opened, and this lease in seconds is the book of this core's clients.
pub record IsBookOf (is_open was_opened : ℕ → Bool) (lease : ℕ) (server : Server) : Type 0 where
  pub lasts : lease ≡ server.journal.lease
  -- the leases that are open are those of the live clients
  pub live : (client : ℕ) → is_open client ≡ is_live client server.stored.clients
  -- no client can become live whose lease, or that of a later generation of its slot, was opened; so no lease has to be
  -- opened twice
  pub past : (client : ℕ) → IsTrue (was_opened client)
      → IsFalse (can_become_live client server.stored.clients)

-- What is asked of the book at this moment when clients come and go: the lease of one that becomes live is opened, and
-- that of one that isn't live any more is retired.
abbrev pub events_of_change : LiveChange → ℕ → List BookEvent
events_of_change changes.Same moment = []
events_of_change (changes.Comes comes) moment = Open comes moment ∷ []
events_of_change (changes.Replaces comes goes) moment = Open comes moment ∷ Retire goes ∷ []
events_of_change (changes.Goes goes) moment = Retire goes ∷ []

-- what is asked of the book after an operation, at this moment: nothing if the operation made no entry
abbrev pub events_entered : Option Entered → ℕ → List BookEvent
events_entered None moment = []
events_entered (Some entered) moment = events_of_change entered.live moment

-- The lease of the client can be opened, as neither it nor a later one of its slot was, and none of its slot is open.
abbrev pub CanOpen : (is_open was_opened : ℕ → Bool) → ℕ → Type 0
CanOpen is_open was_opened client = IsFalse (was_opened client) × IsAloneIn is_open client

-- the book can be asked what a change wants: a lease that is retired was opened
abbrev pub CanFollow : (is_open was_opened : ℕ → Bool) → LiveChange → Type 0
CanFollow is_open was_opened changes.Same = ⊤
CanFollow is_open was_opened (changes.Comes comes) = CanOpen is_open was_opened comes
CanFollow is_open was_opened (changes.Replaces comes goes) =
    CanOpen is_open was_opened comes × IsTrue (was_opened goes)
CanFollow is_open was_opened (changes.Goes goes) = IsTrue (was_opened goes)
