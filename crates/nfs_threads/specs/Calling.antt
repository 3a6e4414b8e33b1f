-- How the shared state answers the callback thread, and what this thread does in a run.
use Rattle.std.specs.Prelude.{◌≡◌, ◌↔◌, ⊤, ℕ, eqb, Bool, ◌⊎◌, List, [], ◌++◌, filter, IsTrue, Option, Some, None, Result, Ok, Err, is_ok, option_map}
use mathlib.Core.List.{IsPrefix}
use Rattle.std.specs.List.{flat_map}
use Rattle.nfs_callbacks.specs.Accounts.{left_by, recalls_for}
use Rattle.nfs_callbacks.specs.Callers.{idle}
use Rattle.nfs_callbacks.specs.Source.{Answered, HasCallback, HasDelegation, Lives, Marked, Noticed, Probed, Took}
use Rattle.nfs_callbacks.specs.Steps.{Goes, Rules, Scene, Step, client_of, rules}
use Rattle.nfs_callbacks.specs.declared.fault.Fault.{Fault}
use Rattle.nfs_callbacks.specs.declared.probe.MarkError.TheVariants as marks
use Rattle.nfs_callbacks.specs.declared.probe.Probe.{Probe}
use Rattle.nfs_core.specs.Callbacks.{callback_of, has_delegation}
use Rattle.nfs_core.specs.Events.{IsNotEntered, path_of}
use Rattle.nfs_core.specs.Server.{Enters, Server}
use Rattle.nfs_core.specs.declared.core_error.CoreError.{CoreError}
use Rattle.nfs_core.specs.declared.core_error.CoreError.TheVariants as errors
use Rattle.nfs_core.specs.declared.event.Event.TheVariants as events
use Rattle.nfs_forms.specs.declared.callback.Callback.{Callback}
use Rattle.nfs_owners.specs.LiveClients.{IsNextUnknown}
use Rattle.nfs_owners.specs.Registry.{is_live}
use Rattle.nfs_owners.specs.declared.client_record.ClientState.{ClientState}
use Rattle.nfs_rpc.specs.declared.recall.Recall.{Recall}
use Rattle.nfs_shared.specs.Held.{HasLooked, HasMarked, HeldView, SenderMayFind}
use Rattle.nfs_shared.specs.Sender.{SenderView, with_known, with_taken}
use Rattle.nfs_state.specs.State.{History}
use Rattle.nfs_state.specs.declared.entry.Entry.{Entry}
use Rattle.nfs_state.specs.declared.entry.Entry.TheVariants as entries

-- the sender found a value that the lock may guard, of which this holds
abbrev pub Finds : History → SenderView → (HeldView → Type 0) → Type 0
Finds start sender P = (held : HeldView) × SenderMayFind start sender held × P held

-- the number of a client, and how it is called back
abbrev pub probe_of : ClientState → Probe
probe_of state = record { client = state.client.number; callback = state.callback }

-- the entry by which a client's path is marked as up, if it was reached, or as down
abbrev pub entry_for : ℕ → Result (Unit {0}) Fault → Entry
entry_for client reached = entries.Path (path_of client (is_ok reached))

-- the client is called back so, and the mark of its path isn't entered for this reason
abbrev pub IsNotMarked : ℕ → Callback → Result (Unit {0}) Fault → CoreError → HeldView → Type 0
IsNotMarked client callback reached error held =
    (callback_of client held.server ≡ Some callback)
    × IsNotEntered held.server (events.Path (path_of client (is_ok reached))) error

-- How the shared state may answer the callback thread, in a run with this start.
abbrev pub IsAnswered : History → SenderView → Answered → SenderView → Type 0
-- the queue is empty, as far as the sender knows; or its first recall is handed over
IsAnswered start old (Took None) new = (new ≡ old) × IsPrefix old.known_put old.taken
IsAnswered start old (Took (Some recall)) new = new ≡ with_taken recall old
-- the live client of least number above `after` of whose path nothing is known, or that there is none
IsAnswered start old (Probed after (Ok found)) new =
    Finds start old (λ held. (state : Option ClientState)
    × IsNextUnknown after held.server.stored.clients state × (found ≡ option_map probe_of state))
    × HasLooked start old new
IsAnswered start old (Probed after (Err refused)) new = HasLooked start old new
-- whether the client is live; is called back so; has the delegation
IsAnswered start old (Lives client is) new =
    Finds start old (λ held. is ≡ is_live client held.server.stored.clients)
    × HasLooked start old new
IsAnswered start old (HasCallback client callback is) new =
    Finds start old (λ held. IsTrue is ↔ (callback_of client held.server ≡ Some callback))
    × HasLooked start old new
IsAnswered start old (HasDelegation recall is) new =
    Finds start old (λ held. is ≡ has_delegation recall.stateid held.server)
    × HasLooked start old new
-- The client is called back so, and its path is marked by an entry, as up only if it was reached; or it isn't called
-- back so, and there is no entry.
IsAnswered start old (Marked client callback reached (Ok done)) new =
    (Finds start old (λ held. (callback_of client held.server ≡ Some callback)
    × ((after : Server) × (number : ℕ) × Enters held.server after (entry_for client reached) number))
    × HasMarked start old new)
    ⊎ Finds start old (λ held. (callback_of client held.server ≡ Some callback → ⊥)
    × (new ≡ with_known held.put old))
-- the client is called back so, and memory ran out for the entry, or the journal is full
IsAnswered start old (Marked client callback reached (Err marks.Later)) new =
    Finds start old (IsNotMarked client callback reached errors.Memory) × HasLooked start old new
IsAnswered start old (Marked client callback reached (Err marks.Never)) new =
    Finds start old (IsNotMarked client callback reached errors.Full) × HasLooked start old new
-- the state stays as it is
IsAnswered start old (Noticed client callback) new = new ≡ old

-- the steps of the callback thread, in a run with this start
abbrev pub calling : History → Rules SenderView (Unit {0})
calling start = rules (IsAnswered start) (λ old traffic new. ⊤)

-- a sender that took nothing yet
abbrev pub unused : SenderView
unused = record { taken = []; known_put = []; count = 0 }

-- In a run with this start the callback thread called clients back, and left the sender so: it took steps, one after
-- the other, from where nothing was to be said to anybody.
pub record HasCalled (start : History) (sender : SenderView) : Type 0 where
  pub steps : List Step
  pub last : Scene SenderView (Unit {0})
  pub goes : Goes (calling start) (idle unused tt) steps last
  pub is : sender ≡ last.source

-- the recall is to this client
abbrev pub is_to : ℕ → Recall → Bool
is_to client recall = eqb client (client_of recall)

-- Of each client: the recalls that were taken for it are, in order, those that have left its line, and then those that
-- are left there.
abbrev pub NoneIsLost : (start : History) (sender : SenderView) → HasCalled start sender → Type 0
NoneIsLost start sender called =
    (client : ℕ)
    → filter (is_to client) sender.taken
    ≡ flat_map (left_by client) called.steps ++ recalls_for client called.last
