-- The seqid in each stateid is from 1 to 2^32 - 1.
use Rattle.std.proofs.Common.{ℕ, Bool, cond, Some, None, List, [], map, arith}
use Rattle.std.specs.Prelude.{◌+◌, ◌-◌, ◌^◌, ◌==◌, ◌≤◌, ◌≢◌, not}
use Rattle.std.specs.List.{AllByRecursion}
use Rattle.std.proofs.lemmas.Bool.{cond_both, eqb-false}
use Rattle.nfs_core.specs.Safe.{EachLock, HaveSeqids, IsSeqid}
use Rattle.nfs_core.proofs.EachOpen.{HoldsAfter, all_of_any, each_changed, each_owned}
use Rattle.nfs_core.proofs.SafeFiles.{set_locks}
use Rattle.nfs_core.proofs.SafeLists.{all_filter, all_map, all_push, all_replicate}
use Rattle.nfs_forms.specs.Stateid.{seqid_after_change}
use Rattle.nfs_locks.specs.Locks.{ByteLocks, after_change, first_state, is_lock_of, is_lock_of_client, is_numbered, is_under, with_first_lock, with_lock_change}
use Rattle.nfs_locks.specs.Locks as locks
use Rattle.nfs_owners.specs.declared.clients.client_change.ClientChange.TheVariants as client_changes
use Rattle.nfs_ranges.specs.declared.piece.Piece.{Piece}
use Rattle.nfs_share.specs.Delegations.{delegation_stateid}
use Rattle.nfs_share.specs.declared.delegation.Delegation.{Delegation}
use Rattle.nfs_share.specs.declared.open_state.OpenState.{OpenState}
use Rattle.nfs_state.specs.Changes.{with_owner_change, with_state_change}
use Rattle.nfs_state.specs.State.{State, empty_server}
use Rattle.nfs_state.specs.declared.change.Change.{Change}
use Rattle.nfs_state.specs.declared.change.Change.TheVariants as changes
use Rattle.nfs_state.specs.declared.owner_change.OwnerChange.{OwnerChange}
use Rattle.nfs_state.specs.declared.owner_change.OwnerChange.TheVariants as owner_changes
use Rattle.nfs_tree.specs.Tree.{node_count}
use Rattle.nfs_tree.specs.declared.node.Node.{Node}

abbrev HasSeqid : OpenState → Type 0
HasSeqid o = IsSeqid o.seqid

abbrev HasLockSeqid : ByteLocks → Type 0
HasLockSeqid l = IsSeqid l.seqid

-- The first seqid, and the one after another: after the greatest comes the first again.

one_is : IsSeqid 1
one_is = (omega arith, omega arith)

below : (last seqid : ℕ) → seqid ≤ last → seqid ≢ last → seqid + 1 ≤ last
below last seqid most other = omega (arith, other)

next_within : (last seqid : ℕ) → 1 ≤ last → seqid ≤ last → (1 ≤ cond (seqid == last) 1 (seqid + 1)) × (cond (seqid == last) 1 (seqid + 1) ≤ last)
next_within last seqid some most =
    cond_both (seqid == last) 1 (seqid + 1) (λ next. (1 ≤ next) × (next ≤ last))
    (λ _. (omega arith, some)) (λ other. (omega arith, below last seqid most (eqb-false seqid last other)))

next_is : (seqid : ℕ) → IsSeqid seqid → IsSeqid (seqid_after_change seqid)
next_is seqid is = next_within (2 ^ 32 - 1) seqid one_is.1 is.1

-- The opens: one begins with the first seqid, and each change gives it the next.

open_seqids : (change : Change) (old : State) → HoldsAfter HasSeqid change old
open_seqids (changes.Opens node owner share lent) old = (one_is, λ o h. next_is o.seqid h)
open_seqids (changes.Confirms node number owner) old = λ o h. next_is o.seqid h
open_seqids (changes.Downgrades node number share) old = all_of_any _ (λ o h _. next_is o.seqid h) _
open_seqids change old = tt

-- The lock states, likewise.

changed_seqids : (number : ℕ) (change : Piece) (xs : List ByteLocks) → AllByRecursion HasLockSeqid xs → AllByRecursion HasLockSeqid (with_lock_change number change xs)
changed_seqids number change xs h =
    all_map HasLockSeqid HasLockSeqid (λ l. cond (is_numbered number l) (after_change change l) l)
    (λ l k. cond_both (is_numbered number l) (after_change change l) l HasLockSeqid (λ _. next_is l.seqid k) (λ _. k)) xs h

seqids_left : (test : ByteLocks → Bool) (xs : List ByteLocks) → AllByRecursion HasLockSeqid xs → AllByRecursion HasLockSeqid (locks.without test xs)
seqids_left test xs h = all_filter HasLockSeqid HasLockSeqid (λ l. not (test l)) (λ l k _. k) xs h

all_seqids_left : (test : ByteLocks → Bool) (old : State) → EachLock HasLockSeqid old → AllByRecursion (AllByRecursion HasLockSeqid) (map (locks.without test) old.locks)
all_seqids_left test old h =
    all_map (AllByRecursion HasLockSeqid) (AllByRecursion HasLockSeqid) (locks.without test) (λ xs k. seqids_left test xs k) old.locks h

lock_seqids : (change : Change) (old : State) → EachLock HasLockSeqid old → EachLock HasLockSeqid (with_state_change change old)
lock_seqids changes.Nothing old h = h
lock_seqids (changes.Opens node owner share None) old h = h
lock_seqids (changes.Opens node owner share (Some kind)) old h = h
lock_seqids (changes.Clients (client_changes.Replaces r client)) old h = all_seqids_left (is_lock_of_client client) old h
lock_seqids (changes.Clients change) old h = h
lock_seqids (changes.Closes node number) old h =
    set_locks (AllByRecursion HasLockSeqid) tt (locks.without (is_under number)) (seqids_left (is_under number)) node old.locks h
lock_seqids (changes.Begins node first) old h =
    let number = old.last_state + 1 in
    set_locks (AllByRecursion HasLockSeqid) tt (with_first_lock first number)
    (λ xs k. all_push HasLockSeqid xs (first_state first number) k one_is) node old.locks h
lock_seqids (changes.Locks node number change) old h =
    set_locks (AllByRecursion HasLockSeqid) tt (with_lock_change number change) (changed_seqids number change) node old.locks h
lock_seqids (changes.Releases owner) old h = all_seqids_left (is_lock_of owner) old h
lock_seqids (changes.Expires client) old h = all_seqids_left (is_lock_of_client client) old h
lock_seqids change old h = h

lock_seqids_owned : (change : OwnerChange) (number : ℕ) (old : State) → EachLock HasLockSeqid old → EachLock HasLockSeqid (with_owner_change change number old)
lock_seqids_owned owner_changes.Nothing number old h = h
lock_seqids_owned change number old h = h

-- The delegations: theirs never changes.

lent_seqids : (lent : List (List Delegation)) → AllByRecursion (AllByRecursion (λ d. IsSeqid (delegation_stateid d).seqid)) lent
lent_seqids lent =
    let P : Delegation → Type 0 = λ d. IsSeqid (delegation_stateid d).seqid in
    all_of_any (AllByRecursion P) (λ ds. all_of_any P (λ d. one_is) ds) lent

-- an operation's own change
pub seqids_changed : (change : Change) (old : State) → HaveSeqids old → HaveSeqids (with_state_change change old)
seqids_changed change old h = record {
  opens = each_changed HasSeqid change old (open_seqids change old) h.opens;
  locks = lock_seqids change old h.locks;
  delegations = lent_seqids (with_state_change change old).delegations;
}

-- what an entry means for an owner
pub seqids_owned : (change : OwnerChange) (number : ℕ) (old : State) → HaveSeqids old → HaveSeqids (with_owner_change change number old)
seqids_owned change number old h = record {
  opens = each_owned HasSeqid change number old h.opens;
  locks = lock_seqids_owned change number old h.locks;
  delegations = lent_seqids (with_owner_change change number old).delegations;
}

pub seqids_empty : (nodes : List Node) → HaveSeqids (empty_server nodes)
seqids_empty nodes = record {
  opens = all_replicate (AllByRecursion HasSeqid) [] tt (node_count nodes);
  locks = all_replicate (AllByRecursion HasLockSeqid) [] tt (node_count nodes);
  delegations = lent_seqids (empty_server nodes).delegations;
}
