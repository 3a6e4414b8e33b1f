-- No limit is exceeded.
use Rattle.std.proofs.Common.{◌≡◌, ℕ, Bool, true, false, cond, Option, Some, None, List, [], ◌∷◌, length, map, refl, arith}
use Rattle.std.specs.Prelude.{◌+◌, ◌≤◌, ◌<◌, ◌&&◌, ◌||◌, is_some, nat_lt, not, if◌then◌else◌}
use Rattle.std.specs.List.{AllByRecursion}
use Rattle.std.proofs.lemmas.Bool.{ltb-false, ltb-true}
use Rattle.nfs_core.specs.Safe.{HasFewRuns, KeepsLimits}
use Rattle.nfs_core.proofs.LiveLists.{none_passes}
use Rattle.nfs_core.proofs.SafeFiles.{locks_at, set_locks}
use Rattle.nfs_core.proofs.SafeLists.{all_both, all_filter, all_map, all_push, all_replicate, all_set}
use Rattle.nfs_core.proofs.SafeSums.{as_many, fewer, one_more, still_within, sum_all_none, sum_of_all, sum_ones}
use Rattle.nfs_core.proofs.SoundNumbers.{before_grant, gives, of_lent, of_lock, of_open, weight, weight_changed, weight_granted, weight_owned}
use Rattle.nfs_core.proofs.SoundSteps.{IsChangeReady, IsClientReady, IsOwnerReady}
use Rattle.nfs_forms.specs.ClientId.{is_same_client}
use Rattle.nfs_forms.specs.declared.client_id.ClientId.{ClientId}
use Rattle.nfs_forms.specs.declared.open_owner.OpenOwner.{OpenOwner}
use Rattle.nfs_locks.specs.AllLocks.{is_full_for, lock_count, locks_of}
use Rattle.nfs_locks.specs.Locks.{ByteLocks, after_change, first_state, is_lock_of, is_lock_of_client, is_numbered, is_under, with_first_lock, with_lock_change, would_be_full}
use Rattle.nfs_locks.specs.Locks as locks
use Rattle.nfs_owners.specs.ClientChange.{with_change}
use Rattle.nfs_owners.specs.Registry.{Registry, given_of}
use Rattle.nfs_owners.specs.Slots.{slot_of}
use Rattle.nfs_owners.specs.StateOwner.{lock_owner, open_owner}
use Rattle.nfs_owners.specs.declared.clients.client_change.ClientChange.{ClientChange}
use Rattle.nfs_owners.specs.declared.clients.client_change.ClientChange.TheVariants as client_changes
use Rattle.nfs_owners.specs.declared.owner.TheConstants.{OWNER_LIMIT}
use Rattle.nfs_owners.specs.declared.slots.TheConstants.{GENERATIONS, SLOTS}
use Rattle.nfs_owners.specs.declared.state_owner.StateOwner.{StateOwner}
use Rattle.nfs_ranges.specs.Modes.{modes_of, with_change as with_mode_change}
use Rattle.nfs_ranges.specs.Runs.{runs}
use Rattle.nfs_ranges.specs.declared.limits.TheConstants.{RUN_LIMIT}
use Rattle.nfs_ranges.specs.declared.piece.Piece.{Piece}
use Rattle.nfs_rules.specs.Lending.{has_lending_place, new_opens}
use Rattle.nfs_rules.specs.operations.Open.{has_open}
use Rattle.nfs_share.specs.AllOpens.{delegation_count, open_count, opens_of}
use Rattle.nfs_share.specs.Opens.{open_of}
use Rattle.nfs_share.specs.declared.delegation.Delegation.{Delegation}
use Rattle.nfs_share.specs.declared.delegation.DelegationKind.{DelegationKind}
use Rattle.nfs_share.specs.declared.open_state.OpenState.{OpenState}
use Rattle.nfs_share.specs.declared.share.Share.{Share}
use Rattle.nfs_state.specs.Changes.{with_grant, with_open, with_owner_change, with_state_change}
use Rattle.nfs_state.specs.Owners.{KnownOwner, has_name, with_kept_entry, with_record, without_owner}
use Rattle.nfs_state.specs.Places.{has_state_place, state_count}
use Rattle.nfs_state.specs.State.{State, empty_server}
use Rattle.nfs_state.specs.declared.change.Change.{Change}
use Rattle.nfs_state.specs.declared.change.Change.TheVariants as changes
use Rattle.nfs_state.specs.declared.limits.TheConstants.{STATE_LIMIT}
use Rattle.nfs_state.specs.declared.owner_change.OwnerChange.{OwnerChange}
use Rattle.nfs_state.specs.declared.owner_change.OwnerChange.TheVariants as owner_changes
use Rattle.nfs_tree.specs.Tree.{node_count}
use Rattle.nfs_tree.specs.declared.node.Node.{Node}

-- the law that the bytes of an owner's first change are in one run at most
abbrev pub FirstRuns : Type 0
FirstRuns = (change : Piece) → runs (with_mode_change change (modes_of [])) ≤ 1

-- The opens, the lock states and the delegations: each counts as one.

abbrev one : ℕ → ℕ
one n = 1

open_count_is : (opens : List (List OpenState)) → open_count opens ≡ sum_of_all (of_open one) opens
open_count_is [] = refl
open_count_is (xs ∷ opens) = omega (arith, sum_ones xs, open_count_is opens)

lock_count_is : (locks : List (List ByteLocks)) → lock_count locks ≡ sum_of_all (of_lock one) locks
lock_count_is [] = refl
lock_count_is (xs ∷ locks) = omega (arith, sum_ones xs, lock_count_is locks)

delegation_count_is : (all : List (List Delegation)) → delegation_count all ≡ sum_of_all (of_lent one) all
delegation_count_is [] = refl
delegation_count_is (xs ∷ all) = omega (arith, sum_ones xs, delegation_count_is all)

state_count_is : (state : State) → state_count state ≡ weight one state
state_count_is state = omega (arith, open_count_is state.opens, lock_count_is state.locks, delegation_count_is state.delegations)

other : (b : Bool) (c : Bool) → not b ≡ true → (b || c) ≡ true → c ≡ true
other true c unset either = absurd cc
other false c unset either = either

-- where a change makes a state, there is a place
has_place : (change : Change) (old : State) → IsChangeReady change old → gives change old ≡ true → has_state_place old ≡ true
has_place (changes.Opens node owner share lent) old ready given = other (is_some (open_of owner (opens_of node old.opens))) (has_state_place old) given ready.1.1
has_place (changes.Begins node first) old ready given = ready.4
has_place change old ready given = absurd cc

-- before a delegation is lent

states_before : (change : Change) (old : State) → IsChangeReady change old → state_count old ≤ STATE_LIMIT → state_count (before_grant change old) ≤ STATE_LIMIT
states_before change old ready below =
    let new = before_grant change old in
    let grows = weight_changed one change old in
    still_within (gives change old) (state_count old) (state_count new) STATE_LIMIT (omega (arith, grows, state_count_is old, state_count_is new))
    (λ given. ltb-true (state_count old) STATE_LIMIT (has_place change old ready given)) below

anew : (has_open : Bool) → cond (not has_open) 1 0 ≡ new_opens has_open
anew true = refl
anew false = refl

-- where a delegation is lent, there is a place for it beside the open
place_beside : (node : ℕ) (owner : OpenOwner) (share : Share) (lent : Option DelegationKind) (old : State) → has_lending_place old (has_open old owner node) lent ≡ true → is_some lent ≡ true
    → state_count (with_open node owner share old) < STATE_LIMIT
place_beside node owner share None old place lends = absurd cc
place_beside node owner share (Some kind) old place lends =
    let mid = with_open node owner share old in
    let grows = weight_changed one (changes.Opens node owner share (Some kind)) old in
    let has = has_open old owner node in
    omega (arith, grows, state_count_is old, state_count_is mid, anew has, ltb-true (state_count old + new_opens has) STATE_LIMIT place)

states_granted : (node : ℕ) (client : ClientId) (lent : Option DelegationKind) (old : State) → (is_some lent ≡ true → state_count old < STATE_LIMIT) → state_count old ≤ STATE_LIMIT
    → state_count (with_grant node client lent old) ≤ STATE_LIMIT
states_granted node client lent old place below =
    let new = with_grant node client lent old in
    let grows = weight_granted one node client lent old in
    still_within (is_some lent) (state_count old) (state_count new) STATE_LIMIT (omega (arith, grows, state_count_is old, state_count_is new)) place below

states_changed : (change : Change) (old : State) → IsChangeReady change old → state_count old ≤ STATE_LIMIT → state_count (with_state_change change old) ≤ STATE_LIMIT
states_changed (changes.Opens node owner share lent) old ready below =
    states_granted node owner.client lent (with_open node owner share old) (place_beside node owner share lent old ready.1.3)
    (states_before (changes.Opens node owner share lent) old ready below)
states_changed change old ready below = states_before change old ready below

states_owned : (change : OwnerChange) (number : ℕ) (old : State) → state_count old ≤ STATE_LIMIT → state_count (with_owner_change change number old) ≤ STATE_LIMIT
states_owned change number old below =
    let new = with_owner_change change number old in
    omega (arith, weight_owned one change number old, state_count_is old, state_count_is new, below)

-- The owners.

kept_many : (number : ℕ) (name : StateOwner) (owners : List KnownOwner) → length (with_kept_entry number name owners) ≡ length owners
kept_many number name owners = as_many (λ o. if has_name name o then record o { kept_entry = number } else o) owners

recorded_many : (number : ℕ) (name : StateOwner) (confirmed : Bool) (owners : List KnownOwner) → length (with_record number name confirmed owners) ≡ length owners + 1
recorded_many number name confirmed owners = one_more owners (record { name = name; confirmed = confirmed; recording_entry = number; kept_entry = number })

left_many : (name : StateOwner) (owners : List KnownOwner) → length (without_owner name owners) ≤ length owners
left_many name owners = fewer (λ o. not (has_name name o)) owners

owners_owned : (change : OwnerChange) (number : ℕ) (old : State) → IsOwnerReady change old → length old.owners ≤ OWNER_LIMIT → length (with_owner_change change number old).owners ≤ OWNER_LIMIT
owners_owned owner_changes.Nothing number old ready below = below
owners_owned (owner_changes.Keeps name) number old ready below = omega (arith, kept_many number name old.owners, below)
owners_owned (owner_changes.KeepsBoth name newcomer) number old ready below =
    omega (arith, kept_many number name old.owners, kept_many number newcomer (with_kept_entry number name old.owners), below)
owners_owned (owner_changes.Introduces name newcomer) number old ready below =
    omega (arith, kept_many number name old.owners, recorded_many number newcomer false (with_kept_entry number name old.owners), ltb-true (length old.owners) OWNER_LIMIT ready.1)
owners_owned (owner_changes.Records name confirmed) number old ready below =
    omega (arith, recorded_many number (open_owner name) confirmed old.owners, ltb-true (length old.owners) OWNER_LIMIT ready.1)
owners_owned (owner_changes.Restarts name confirmed) number old ready below =
    let left = without_owner (open_owner name) old.owners in
    omega (arith, recorded_many number (open_owner name) confirmed left, ltb-true (length left) OWNER_LIMIT ready.2)
owners_owned (owner_changes.Drops name) number old ready below = omega (arith, left_many (open_owner name) old.owners, below)

owners_changed : (change : Change) (old : State) → length old.owners ≤ OWNER_LIMIT → length (with_state_change change old).owners ≤ OWNER_LIMIT
owners_changed changes.Nothing old below = below
owners_changed (changes.Opens node owner share None) old below = below
owners_changed (changes.Opens node owner share (Some kind)) old below = below
owners_changed (changes.Clients (client_changes.Replaces r client)) old below =
    omega (arith, fewer (λ o. not (is_same_client o.name.client client)) old.owners, below)
owners_changed (changes.Clients change) old below = below
owners_changed (changes.Confirms node number owner) old below =
    omega (arith, as_many (λ o. if has_name (open_owner owner) o then record o { confirmed = true } else o) old.owners, below)
owners_changed (changes.Releases owner) old below = omega (arith, left_many (lock_owner owner) old.owners, below)
owners_changed (changes.Forgets owner) old below = omega (arith, left_many (open_owner owner) old.owners, below)
owners_changed (changes.Expires client) old below =
    omega (arith, fewer (λ o. not (is_same_client o.name.client client)) old.owners, below)
owners_changed change old below = below

-- The clients' numbers.

abbrev HaveFewGenerations : Registry → Type 0
HaveFewGenerations registry = AllByRecursion (λ count. count ≤ GENERATIONS) registry.given

numbers_changed : (change : ClientChange) (old : Registry) → IsClientReady change old → HaveFewGenerations old → HaveFewGenerations (with_change change old)
numbers_changed client_changes.Nothing old ready below = below
numbers_changed (client_changes.Arrives r) old ready below =
    let slot = slot_of r.state.client.number in
    all_set (λ count. count ≤ GENERATIONS) old.given slot (given_of old slot + 1) below (omega (arith, ltb-true (given_of old slot) GENERATIONS ready.1))
numbers_changed change old ready below = below

clients_changed : (change : Change) (old : State) → IsChangeReady change old → HaveFewGenerations old.clients → HaveFewGenerations (with_state_change change old).clients
clients_changed changes.Nothing old ready below = below
clients_changed (changes.Opens node owner share None) old ready below = below
clients_changed (changes.Opens node owner share (Some kind)) old ready below = below
clients_changed (changes.Clients change) old ready below = numbers_changed change old.clients ready below
clients_changed change old ready below = below

clients_owned : (change : OwnerChange) (number : ℕ) (old : State) → HaveFewGenerations old.clients → HaveFewGenerations (with_owner_change change number old).clients
clients_owned owner_changes.Nothing number old below = below
clients_owned change number old below = below

-- The runs of lock states.

abbrev HaveFewRuns : List (List ByteLocks) → Type 0
HaveFewRuns locks = AllByRecursion (AllByRecursion HasFewRuns) locks

few : (many limit : ℕ) → many ≤ 1 → 1 ≤ limit → many ≤ limit
few many limit less some = omega arith

not_above : (many limit : ℕ) → nat_lt limit many ≡ false → many ≤ limit
not_above many limit unset = ltb-false limit many unset

runs_left : (test : ByteLocks → Bool) (xs : List ByteLocks) → AllByRecursion HasFewRuns xs → AllByRecursion HasFewRuns (locks.without test xs)
runs_left test xs h = all_filter HasFewRuns HasFewRuns (λ l. not (test l)) (λ l k _. k) xs h

-- the lock state with the number isn't full after the change
run_changed : (change : Piece) (l : ByteLocks) (numbered : Bool) → HasFewRuns l → (numbered && would_be_full change l) ≡ false → HasFewRuns (cond numbered (after_change change l) l)
run_changed change l true h unfilled = not_above (runs (with_mode_change change l.modes)) RUN_LIMIT unfilled
run_changed change l false h unfilled = h

runs_added : (number : ℕ) (change : Piece) (xs : List ByteLocks) → is_full_for number change xs ≡ false → AllByRecursion HasFewRuns xs → AllByRecursion HasFewRuns (with_lock_change number change xs)
runs_added number change xs unfilled h =
    let full : ByteLocks → Bool = λ l. is_numbered number l && would_be_full change l in
    all_map (λ l. HasFewRuns l × (full l ≡ false)) HasFewRuns (λ l. if is_numbered number l then after_change change l else l)
    (λ l k. run_changed change l (is_numbered number l) k.0 k.1) xs
    (all_both HasFewRuns (λ l. full l ≡ false) xs h (none_passes full xs unfilled))

runs_dropped : (test : ByteLocks → Bool) (old : List (List ByteLocks)) → HaveFewRuns old → HaveFewRuns (map (locks.without test) old)
runs_dropped test old h = all_map (AllByRecursion HasFewRuns) (AllByRecursion HasFewRuns) (locks.without test) (λ xs k. runs_left test xs k) old h

runs_changed : FirstRuns → (change : Change) (old : State) → IsChangeReady change old → HaveFewRuns old.locks → HaveFewRuns (with_state_change change old).locks
runs_changed first_runs changes.Nothing old ready h = h
runs_changed first_runs (changes.Opens node owner share None) old ready h = h
runs_changed first_runs (changes.Opens node owner share (Some kind)) old ready h = h
runs_changed first_runs (changes.Clients (client_changes.Replaces r client)) old ready h = runs_dropped (is_lock_of_client client) old.locks h
runs_changed first_runs (changes.Clients change) old ready h = h
runs_changed first_runs (changes.Closes node number) old ready h =
    set_locks (AllByRecursion HasFewRuns) tt (locks.without (is_under number)) (runs_left (is_under number)) node old.locks h
runs_changed first_runs (changes.Begins node first) old ready h =
    let new = first_state first (old.last_state + 1) in
    set_locks (AllByRecursion HasFewRuns) tt (with_first_lock first (old.last_state + 1))
    (λ xs k. all_push HasFewRuns xs new k (few (runs new.modes) RUN_LIMIT (first_runs first.change) (omega arith))) node old.locks h
runs_changed first_runs (changes.Locks node number change) old ready h =
    let here = locks_of node old.locks in
    all_set (AllByRecursion HasFewRuns) old.locks node (with_lock_change number change here) h
    (runs_added number change here ready.3 (locks_at (AllByRecursion HasFewRuns) tt node old.locks h))
runs_changed first_runs (changes.Releases owner) old ready h = runs_dropped (is_lock_of owner) old.locks h
runs_changed first_runs (changes.Expires client) old ready h = runs_dropped (is_lock_of_client client) old.locks h
runs_changed first_runs change old ready h = h

runs_owned : (change : OwnerChange) (number : ℕ) (old : State) → HaveFewRuns old.locks → HaveFewRuns (with_owner_change change number old).locks
runs_owned owner_changes.Nothing number old h = h
runs_owned change number old h = h

-- All limits.

pub limits_changed : FirstRuns → (change : Change) (old : State) → IsChangeReady change old → KeepsLimits old → KeepsLimits (with_state_change change old)
limits_changed first_runs change old ready h = record {
  states = states_changed change old ready h.states;
  owners = owners_changed change old h.owners;
  clients = clients_changed change old ready h.clients;
  runs = runs_changed first_runs change old ready h.runs;
}

pub limits_owned : (change : OwnerChange) (number : ℕ) (old : State) → IsOwnerReady change old → KeepsLimits old → KeepsLimits (with_owner_change change number old)
limits_owned change number old ready h = record {
  states = states_owned change number old h.states;
  owners = owners_owned change number old ready h.owners;
  clients = clients_owned change number old h.clients;
  runs = runs_owned change number old h.runs;
}

pub limits_empty : (nodes : List Node) → KeepsLimits (empty_server nodes)
limits_empty nodes =
    let count = node_count nodes in
    let no_opens = sum_all_none (of_open one) count in
    let no_locks = sum_all_none (of_lock one) count in
    let no_delegations = sum_all_none (of_lent one) count in
    record {
      states = omega (arith, state_count_is (empty_server nodes), no_opens, no_locks, no_delegations);
      owners = omega arith;
      clients = all_replicate (λ count. count ≤ GENERATIONS) 0 (omega arith) SLOTS;
      runs = all_replicate (AllByRecursion HasFewRuns) [] tt count;
    }
