-- The recalls that a journal makes: which delegations are called back, in what order, and how (RFC 7530, section
-- 10.4.4).
use Rattle.std.specs.Prelude.{◌≡◌, ⊤, ℕ, ◌+◌, ◌<◌, Bool, ◌&&◌, if◌then◌else◌, List, [], ◌∷◌, ◌++◌, drop, length, Option, None, is_none, option_map}
use Rattle.std.specs.List.{AllPairs, filter_map}
use mathlib.Core.List.{IsPrefix}
use Rattle.nfs_core.specs.Lawful.{Lawful}
use Rattle.nfs_core.specs.Step.{Allows}
use Rattle.nfs_owners.specs.Registry.{Registry, record_of, record_state}
use Rattle.nfs_owners.specs.declared.client_record.ClientState.{ClientState}
use Rattle.nfs_rpc.specs.declared.recall.Recall.{Recall}
use Rattle.nfs_share.specs.AllOpens.{delegations_of}
use Rattle.nfs_share.specs.Delegations.{conflicts, delegation_stateid}
use Rattle.nfs_share.specs.declared.delegation.Delegation.{Delegation}
use Rattle.nfs_share.specs.declared.delegation.FileUse.{FileUse}
use Rattle.nfs_state.specs.Changes.{after}
use Rattle.nfs_state.specs.Entries.{call_of, with_entry}
use Rattle.nfs_state.specs.State.{History, State, empty_server}
use Rattle.nfs_state.specs.declared.change.Change.{Change}
use Rattle.nfs_state.specs.declared.change.Change.TheVariants as changes
use Rattle.nfs_state.specs.declared.effect.Effect.{Effect}
use Rattle.nfs_state.specs.declared.entry.Entry.{Entry}
use Rattle.nfs_tree.specs.Tree.{handle_of}

-- The delegation is in the way of this use of the file, and wasn't called back before.
abbrev pub is_called_back : FileUse → Delegation → Bool
is_called_back file_use d = conflicts file_use d && is_none d.recalled

-- the recall of a delegation of the node's file, as its client's record says how to call it back
abbrev pub recall_to : ℕ → Delegation → ClientState → Recall
recall_to node d client = record {
  callback = client.callback;
  principal = client.principal;
  stateid = delegation_stateid d;
  handle = handle_of node;
}

-- the recall of a delegation of the node's file, where it is called back for this use, and its client is live
abbrev pub recall_for : ℕ → FileUse → Registry → Delegation → Option Recall
recall_for node file_use clients d =
    if is_called_back file_use d
    then option_map (recall_to node d) (record_state (record_of d.client clients))
    else None

-- the recalls for this use of the node's file, in the order of its delegations
abbrev pub recalls_for : ℕ → FileUse → State → List Recall
recalls_for node file_use old =
    filter_map (recall_for node file_use old.clients) (delegations_of node old.delegations)

-- The recalls that a change makes in this state. In a state that a journal leads to, a file's delegations stand in the
-- order of their numbers, and so do these recalls, as the law `recalls_rise` says.
abbrev pub recalls_by : Change → State → List Recall
recalls_by (changes.Recalls node file_use moment) old = recalls_for node file_use old
recalls_by change old = []

-- the change calls nothing back
abbrev pub CallsNothingBack : Change → Type 0
CallsNothingBack (changes.Recalls node file_use moment) = ⊥
CallsNothingBack change = ⊤

-- Starting in the state old with this journal, the entries make these recalls, in the order of the entries.
abbrev pub Recalls : History → State → List Entry → List Recall → Type 0
Recalls journal old [] recalls = recalls ≡ []
Recalls journal old (entry ∷ entries) recalls =
    (effect : Effect) × (rest : List Recall)
    × Allows journal old entry effect
    × Recalls (with_entry entry journal) (after (length journal.entries) effect old)
    entries rest
    × (recalls ≡ recalls_by effect.change old ++ rest)

-- the journal, from an empty server, makes these recalls
abbrev pub AreRecallsOf : History → List Recall → Type 0
AreRecallsOf journal recalls =
    Recalls (record journal { entries = [] }) (empty_server journal.nodes) journal.entries recalls

-- What a contract sees of recalls that are taken one after the other, the first one first.
pub record RecallsLeft : Type 0 where
  -- how many recalls were taken
  pub taken : ℕ
  -- the recalls that weren't taken, in order
  pub pending : List Recall

-- the recalls that are left, with how many can be added without memory
pub record RoomyRecalls : Type 0 where
  pub taken : ℕ
  pub pending : List Recall
  pub room : ℕ

-- what is left, no matter how much room there is
abbrev pub left_of : RoomyRecalls → RecallsLeft
left_of recalls = record { taken = recalls.taken; pending = recalls.pending }

-- no recalls, of which none was taken
abbrev pub no_recalls : RecallsLeft
no_recalls = record { taken = 0; pending = [] }

-- the recalls that are left, with these at the end
abbrev pub with_more : List Recall → RecallsLeft → RecallsLeft
with_more more left = record left { pending = left.pending ++ more }

-- What is left are the journal's recalls without those that were taken, which come first.
abbrev pub AreLeftOf : History → RecallsLeft → Type 0
AreLeftOf journal left =
    (recalls : List Recall) × AreRecallsOf journal recalls
    × (left.taken + length left.pending ≡ length recalls)
    × (left.pending ≡ drop left.taken recalls)

-- The recalls of a journal are one list.
abbrev pub AreOneList : Type 0
AreOneList =
    (journal : History) (recalls recalls' : List Recall)
    → AreRecallsOf journal recalls
    → AreRecallsOf journal recalls'
    → recalls ≡ recalls'

-- The recalls of a journal begin those of each one that goes on from it.
abbrev pub RecallsBegin : Type 0
RecallsBegin =
    (journal : History) (more : List Entry) (recalls recalls' : List Recall)
    → AreRecallsOf journal recalls
    → AreRecallsOf (record journal { entries = journal.entries ++ more }) recalls'
    → IsPrefix recalls recalls'

-- With an entry that may come next, a journal makes the recalls that it made, and then those of the entry.
abbrev pub RecallsFollow : Type 0
RecallsFollow =
    (journal : History) (state : State) (entry : Entry) (effect : Effect) (recalls : List Recall)
    → Lawful journal state
    → AreRecallsOf journal recalls
    → Allows journal state entry effect
    → AreRecallsOf (with_entry entry journal) (recalls ++ recalls_by effect.change state)

-- An entry that is no call calls nothing back.
abbrev pub OthersRecallNothing : Type 0
OthersRecallNothing =
    (journal : History) (state : State) (entry : Entry) (effect : Effect)
    → call_of entry ≡ None
    → Allows journal state entry effect
    → recalls_by effect.change state ≡ []

-- The recalls of an entry that may come next stand in the order of the numbers of their delegations.
abbrev pub RecallsRise : Type 0
RecallsRise =
    (journal : History) (state : State) (entry : Entry) (effect : Effect)
    → Lawful journal state
    → Allows journal state entry effect
    → AllPairs (λ a b. a.stateid.number < b.stateid.number) (recalls_by effect.change state)
