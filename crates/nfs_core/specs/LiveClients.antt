-- Which clients are live, and how entries of the journal change it (RFC 7530, sections 9.1.1, 9.6 and 16.34.5).
use Rattle.std.specs.Prelude.{◌≡◌, ℕ, ⊤, not, ◌&&◌, ◌==◌, ◌↔◌, IsFalse, IsTrue, List, Option, Some, None, option_and_then}
use Rattle.nfs_core.specs.Events.{EndsNoClient, entry_by}
use Rattle.nfs_core.specs.Lawful.{Lawful}
use Rattle.nfs_core.specs.Step.{Step}
use Rattle.nfs_core.specs.declared.event.Event.{Event}
use Rattle.nfs_owners.specs.Choice.{choice}
use Rattle.nfs_owners.specs.ClientLaws.{HaveSameClients}
use Rattle.nfs_owners.specs.LiveChange.{is_live_after}
use Rattle.nfs_owners.specs.LiveClients.{can_become_live, replaced_by}
use Rattle.nfs_owners.specs.Registry.{IsClientNumber, Registry, is_live}
use Rattle.nfs_owners.specs.SlotLaws.{AreSlotsLive}
use Rattle.nfs_owners.specs.Slots.{slot_of}
use Rattle.nfs_owners.specs.declared.live_change.LiveChange.{LiveChange}
use Rattle.nfs_owners.specs.declared.live_change.LiveChange.TheVariants as live_changes
use Rattle.nfs_rules.specs.entries.Expire.{is_live as is_live_in}
use Rattle.nfs_state.specs.Entries.{entry_of}
use Rattle.nfs_state.specs.LiveChange.{live_change_of}
use Rattle.nfs_state.specs.State.{State, History}
use Rattle.nfs_state.specs.declared.entry.Entry.{Entry}
use Rattle.nfs_state.specs.declared.entry.Entry.TheVariants as entries
use Rattle.nfs_state.specs.declared.entry.Expire.{Expire}
use Rattle.nfs_state.specs.declared.request.Request.{Request}
use Rattle.nfs_xdr.specs.declared.op.Op.{Op}
use Rattle.nfs_xdr.specs.declared.op.Op.TheVariants as ops
use Rattle.nfs_xdr.specs.declared.op_result.OpResult.{OpResult}

-- Each live client has a number that can be given out.
abbrev pub AreNumbered : Registry → Type 0
AreNumbered registry =
    (number : ℕ) → IsTrue (is_live number registry) → IsClientNumber number

-- A client is told by its number: all clientids are of the run of the server that the journal is of.
abbrev pub AreOfOneRun : History → State → Type 0
AreOfOneRun journal state =
    (number : ℕ) → is_live_in journal state number ≡ is_live number state.clients

-- No client of the number's slot is live.
abbrev pub IsAlone : ℕ → Registry → Type 0
IsAlone number registry =
    (other : ℕ) → slot_of other ≡ slot_of number → IsFalse (is_live other registry)

-- There is no number for a newcomer exactly where a client is live in each slot: a lawful journal is too short to use
-- up the generations of a slot.
abbrev pub NewcomersFindSlots : Type 0
NewcomersFindSlots =
    (journal : History) (state : State) (id : List ℕ)
    → Lawful journal state
    → (choice id state.clients ≡ None) ↔ AreSlotsLive state.clients

-- The client can become live, has a number that can be given out, and is alone in its slot.
abbrev pub CanCome : ℕ → Registry → Type 0
CanCome number registry =
    IsTrue (can_become_live number registry) × IsClientNumber number × IsAlone number registry

-- who comes could become live before, and who goes was live
abbrev pub Fits : LiveChange → Registry → Type 0
Fits live_changes.Same old = ⊤
Fits (live_changes.Comes comes) old = CanCome comes old
Fits (live_changes.Replaces comes goes) old = CanCome comes old × IsTrue (is_live goes old)
Fits (live_changes.Goes goes) old = IsTrue (is_live goes old)

-- An entry did this to who is live.
pub record LiveFollows (change : LiveChange) (old new : Registry) : Type 0 where
  pub live : (number : ℕ) → is_live number new ≡ is_live_after change number (is_live number old)
  pub fits : Fits change old
  -- who can become live afterwards could before, and isn't live
  pub once : (number : ℕ) → IsTrue (can_become_live number new)
      → IsTrue (can_become_live number old) × IsFalse (is_live number new)

-- What each entry does to who is live is what its effect says.
abbrev pub EffectsFollow : Type 0
EffectsFollow =
    (journal : History) (old new : State) (entry : Entry)
    → Lawful journal old
    → (step : Step journal old entry new)
    → LiveFollows (live_change_of step.effect.change) old.clients new.clients

-- the client that the operation asks to confirm, by its number
abbrev pub confirmed_by : Op → Option ℕ
confirmed_by (ops.SetclientidConfirm args) = Some args.client.number
confirmed_by op = None

-- the live client that this one replaces when the operation confirms it
abbrev pub replaced_in : Registry → Op → Option ℕ
replaced_in registry op = option_and_then (λ number. replaced_by number registry) (confirmed_by op)

-- How a call changes which clients are live.
pub record LiveFollow (op : Op) (old new : Registry) : Type 0 where
  -- only the client that it confirms becomes live, and only if it could
  pub comes : (number : ℕ) → IsFalse (is_live number old) → IsTrue (is_live number new)
      → (confirmed_by op ≡ Some number) × IsTrue (can_become_live number old)
  -- only the client that this one replaces isn't live any more
  pub goes : (number : ℕ) → IsTrue (is_live number old) → IsFalse (is_live number new)
      → replaced_in old op ≡ Some number
  -- a client that can't become live before the call can't afterwards
  pub once : (number : ℕ) → IsTrue (can_become_live number new) → IsTrue (can_become_live number old)

-- How the end of a client changes which clients are live.
pub record LiveEnd (client : ℕ) (old new : Registry) : Type 0 where
  pub ends : (number : ℕ) → is_live number new ≡ (is_live number old && not (number == client))
  pub once : (number : ℕ) → IsTrue (can_become_live number new) → IsTrue (can_become_live number old)

-- what each call does to who is live, and what each end of a client does
abbrev pub CallsFollow : Type 0
CallsFollow =
    (journal : History) (old new : State) (request : Request) (answer : OpResult)
    → Lawful journal old
    → Step journal old (entry_of request answer) new
    → LiveFollow request.op old.clients new.clients

abbrev pub EndsFollow : Type 0
EndsFollow =
    (journal : History) (old new : State) (expire : Expire)
    → Lawful journal old
    → Step journal old (entries.Expire expire) new
    → LiveEnd expire.client old.clients new.clients

-- an event that ends no client leaves the clients as they are, but for the marks of their paths
abbrev pub EventsFollow : Type 0
EventsFollow =
    (journal : History) (old new : State) (event : Event)
    → EndsNoClient event
    → Lawful journal old
    → Step journal old (entry_by event) new
    → HaveSameClients old.clients new.clients
