-- What may come next in a journal, as it is judged before it is entered.
use Rattle.std.specs.Prelude.{ℕ, ◌<◌, ◌≤◌, ◌*◌, IsTrue, List, length, Some}
use Rattle.std.specs.List.{AllByRecursion}
use Rattle.nfs_core.specs.Events.{MayHappen}
use Rattle.nfs_core.specs.Server.{Server}
use Rattle.nfs_core.specs.Step.{Allows}
use Rattle.nfs_core.specs.declared.event.Event.{Event}
use Rattle.nfs_core.specs.declared.event.Event.TheVariants as events
use Rattle.nfs_core.specs.declared.following.FollowError.{FollowError}
use Rattle.nfs_core.specs.declared.following.FollowError.TheVariants as errors
use Rattle.nfs_owners.specs.Owners.{AreApart}
use Rattle.nfs_rules.specs.declared.decision.Decision.{Decision}
use Rattle.nfs_rules.specs.operations.{IsRuled}
use Rattle.nfs_state.specs.declared.effect.Effect.{Effect}
use Rattle.nfs_state.specs.declared.entry.Entry.{Entry}
use Rattle.nfs_state.specs.declared.entry.Entry.TheVariants as entries
use Rattle.nfs_state.specs.declared.entry.TheConstants.{JOURNAL_LIMIT}
use Rattle.nfs_state.specs.declared.request.Request.{Request}
use Rattle.nfs_state.specs.declared.shortage.Shortage.{Shortage}
use Rattle.nfs_state.specs.declared.shortage.Shortage.TheVariants as shortages
use Rattle.nfs_state.specs.Entries.{can_be_asked}
use Rattle.nfs_state.specs.Files.{FileState}
use Rattle.nfs_state.specs.Room.{Fits, HasGivenNumbers, state_of}
use Rattle.nfs_state.specs.State.{State, History}
use Rattle.nfs_state.specs.Store.{OwnersAgree}
use Rattle.nfs_state.specs.Stored.{meaning}
use Rattle.nfs_state.specs.declared.store.Store.{Store}
use Rattle.nfs_tree.specs.Tree.{node_count}

-- no file was changed more than so many times
abbrev pub HaveFewChanges : ℕ → List FileState → Type 0
HaveFewChanges number files = AllByRecursion (λ f. f.change ≤ number) files

-- What is stored agrees with the journal as far as a decision and its effect need it: no more confirm values were given
-- out than the journal has entries, and of numbers of states no more than two an entry; each state has a number that
-- was given; no file was changed more often than the journal has entries; and what is stored for each owner is what its
-- entry has.
pub record StoreAgrees (store : Store) : Type 0 where
  pub confirms : store.tables.clients.registry.last_confirm
      ≤ length store.journal.history.entries
  pub states : store.tables.numbers ≤ 2 * length store.journal.history.entries
  pub given : HasGivenNumbers (state_of store.tables)
  pub changes : HaveFewChanges (length store.journal.history.entries)
      (state_of store.tables).files
  pub owners : OwnersAgree store
  -- no two stored owners have one name
  pub owners_differ : AreApart store.tables.owners.owners

-- the request can be asked of a server with the journal's tree and profile
abbrev pub CanBeAsked : History → Request → Type 0
CanBeAsked journal request =
    IsTrue (can_be_asked journal.policy.profile (node_count journal.nodes) request)

-- In the state old, after this journal, the entry may come next with this effect, and can be committed.
pub record IsNext (journal : History) (old : State) (entry : Entry) (effect : Effect) : Type 0 where
  pub below : length journal.entries < JOURNAL_LIMIT
  pub allowed : Allows journal old entry effect
  pub fits : Fits entry effect old

-- The journal isn't full, and the rule of the request's operation gives a decision, so that no limit is passed.
abbrev pub MayBeAnswered : History → State → Request → Type 0
MayBeAnswered journal old request =
    (length journal.entries < JOURNAL_LIMIT)
    × ((decision : Decision) × IsRuled request.op journal old request (Some decision))

-- The event may happen, and the journal isn't full.
abbrev pub MayBeEntered : Server → Event → Type 0
MayBeEntered server event =
    MayHappen server event × (length server.journal.entries < JOURNAL_LIMIT)

-- As far as an entry can be judged without the answer that it has, it may come next: a call can be asked, and may be
-- answered; an event may be entered.
abbrev pub MayFollow : Server → Entry → Type 0
MayFollow server (entries.Call call) =
    CanBeAsked server.journal call.request
    × MayBeAnswered server.journal (meaning server.stored) call.request
MayFollow server (entries.Expire expire) = MayBeEntered server (events.Expire expire)
MayFollow server (entries.Revoke revoke) = MayBeEntered server (events.Revoke revoke)
MayFollow server (entries.Path path) = MayBeEntered server (events.Path path)
MayFollow server (entries.Forget forget) = MayBeEntered server (events.Forget forget)

-- Where a limit would be passed, no entry may come next.
abbrev pub error_of : Shortage → FollowError
error_of shortages.Limit = errors.NotNext
error_of shortages.Memory = errors.Memory
