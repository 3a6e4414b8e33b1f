-- An owner has at most one open, and at most one lock state, of a file.
use Rattle.std.proofs.Common.{◌≡◌, ℕ, Bool, true, false, cond, Option, Some, None, List, [], ◌∷◌, ◌++◌, map, refl, ap, ◌∙◌}
use Rattle.std.specs.Prelude.{◌+◌, is_some, not}
use Rattle.std.specs.List.{AllByRecursion, IsDistinct}
use Rattle.std.proofs.lemmas.Bool.{cond_both}
use Rattle.nfs_core.specs.Safe.{have_same_lock_owner, have_same_owner}
use Rattle.nfs_core.proofs.SafeDistinct.{distinct_filter, distinct_map, distinct_none, distinct_push}
use Rattle.nfs_core.proofs.SafeFiles.{locks_at, set_locks, set_lists}
use Rattle.nfs_core.proofs.SafeLists.{all_map, all_none, all_replicate, all_set}
use Rattle.nfs_core.proofs.SoundSteps.{IsChangeReady}
use Rattle.nfs_forms.specs.LockOwner.{is_same_lock_owner}
use Rattle.nfs_forms.specs.OpenOwner.{is_same_owner}
use Rattle.nfs_forms.specs.declared.client_id.ClientId.{ClientId}
use Rattle.nfs_forms.specs.declared.open_owner.OpenOwner.{OpenOwner}
use Rattle.nfs_locks.specs.AllLocks.{locks_of}
use Rattle.nfs_locks.specs.Locks.{ByteLocks, after_change, first_state, is_lock_of, is_lock_of_client, is_numbered as is_lock_numbered, is_under, lock_of, with_first_lock, with_lock_change}
use Rattle.nfs_locks.specs.Locks as locks
use Rattle.nfs_locks.specs.declared.first_lock.FirstLock.{FirstLock}
use Rattle.nfs_owners.specs.declared.clients.client_change.ClientChange.TheVariants as client_changes
use Rattle.nfs_ranges.specs.declared.piece.Piece.{Piece}
use Rattle.nfs_share.specs.AllOpens.{with_opens}
use Rattle.nfs_share.specs.Opens.{after_downgrade, after_open, first_open, is_numbered, is_of, is_of_client, open_of, with_each, with_next_seqid, with_opening}
use Rattle.nfs_share.specs.Opens as opens
use Rattle.nfs_share.specs.declared.delegation.DelegationKind.{DelegationKind}
use Rattle.nfs_share.specs.declared.open_state.OpenState.{OpenState}
use Rattle.nfs_share.specs.declared.share.Share.{Share}
use Rattle.nfs_state.specs.Changes.{with_grant, with_open, with_owner_change, with_state_change}
use Rattle.nfs_state.specs.State.{State, empty_server}
use Rattle.nfs_state.specs.declared.change.Change.{Change}
use Rattle.nfs_state.specs.declared.change.Change.TheVariants as changes
use Rattle.nfs_state.specs.declared.owner_change.OwnerChange.{OwnerChange}
use Rattle.nfs_state.specs.declared.owner_change.OwnerChange.TheVariants as owner_changes
use Rattle.nfs_tree.specs.Tree.{node_count}
use Rattle.nfs_tree.specs.declared.node.Node.{Node}

abbrev pub HasOneOpens : List (List OpenState) → Type 0
HasOneOpens opens = AllByRecursion (IsDistinct have_same_owner) opens

abbrev pub HasOneLocks : List (List ByteLocks) → Type 0
HasOneLocks locks = AllByRecursion (IsDistinct have_same_lock_owner) locks

-- each owner has one open of a file at most, and one lock state
pub record HasOnes (state : State) : Type 0 where
  pub opens : HasOneOpens state.opens
  pub locks : HasOneLocks state.locks

nothing_found : {X : Type 0} (found : Option X) → is_some found ≡ false → found ≡ None
nothing_found None none = refl
nothing_found (Some x) none = absurd cc

-- The opens of a node.

owner_kept : (change : OpenState → OpenState) → ((o : OpenState) → (change o).owner ≡ o.owner) → (b : Bool) (o : OpenState) → (cond b (change o) o).owner ≡ o.owner
owner_kept change keeps true o = keeps o
owner_kept change keeps false o = refl

each_one : (test : OpenState → Bool) (change : OpenState → OpenState) → ((o : OpenState) → (change o).owner ≡ o.owner) → (xs : List OpenState) → IsDistinct have_same_owner xs
    → IsDistinct have_same_owner (with_each test change xs)
each_one test change keeps xs h =
    let f : OpenState → OpenState = λ o. cond (test o) (change o) o in
    let owner : (o : OpenState) → (f o).owner ≡ o.owner = λ o. owner_kept change keeps (test o) o in
    distinct_map have_same_owner f
    (λ a b. ap (λ n. is_same_owner n (f b).owner) (owner a) ∙ ap (λ n. is_same_owner a.owner n) (owner b)) xs h

opening_one : (owner : OpenOwner) (share : Share) (number : ℕ) (xs : List OpenState) → IsDistinct have_same_owner xs → IsDistinct have_same_owner (with_opening owner share number xs)
opening_one owner share number xs h =
    cond_both (is_some (open_of owner xs)) (with_each (is_of owner) (after_open share) xs) (xs ++ first_open owner share number ∷ []) (IsDistinct have_same_owner)
    (λ _. each_one (is_of owner) (after_open share) (λ o. refl) xs h)
    (λ none. distinct_push have_same_owner xs (first_open owner share number) h (all_none (is_of owner) xs (nothing_found (open_of owner xs) none)))

-- The lock states of a node.

lock_owner_kept : (number : ℕ) (change : Piece) (b : Bool) (l : ByteLocks) → (cond b (after_change change l) l).owner ≡ l.owner
lock_owner_kept number change true l = refl
lock_owner_kept number change false l = refl

changed_one : (number : ℕ) (change : Piece) (xs : List ByteLocks) → IsDistinct have_same_lock_owner xs → IsDistinct have_same_lock_owner (with_lock_change number change xs)
changed_one number change xs h =
    let f : ByteLocks → ByteLocks = λ l. cond (is_lock_numbered number l) (after_change change l) l in
    let owner : (l : ByteLocks) → (f l).owner ≡ l.owner = λ l. lock_owner_kept number change (is_lock_numbered number l) l in
    distinct_map have_same_lock_owner f
    (λ a b. ap (λ n. is_same_lock_owner n (f b).owner) (owner a) ∙ ap (λ n. is_same_lock_owner a.owner n) (owner b)) xs h

first_one : (first : FirstLock) (number : ℕ) (xs : List ByteLocks) → is_some (lock_of first.owner xs) ≡ false → IsDistinct have_same_lock_owner xs → IsDistinct have_same_lock_owner (with_first_lock first number xs)
first_one first number xs none h =
    distinct_push have_same_lock_owner xs (first_state first number) h (all_none (is_lock_of first.owner) xs (nothing_found (lock_of first.owner xs) none))

opens_left : (test : OpenState → Bool) (xs : List OpenState) → IsDistinct have_same_owner xs → IsDistinct have_same_owner (opens.without test xs)
opens_left test xs h = distinct_filter have_same_owner (λ o. not (test o)) xs h

locks_left : (test : ByteLocks → Bool) (xs : List ByteLocks) → IsDistinct have_same_lock_owner xs → IsDistinct have_same_lock_owner (locks.without test xs)
locks_left test xs h = distinct_filter have_same_lock_owner (λ l. not (test l)) xs h

-- Those of all nodes.

opens_set : (change : List OpenState → List OpenState) → ((xs : List OpenState) → IsDistinct have_same_owner xs → IsDistinct have_same_owner (change xs)) → (node : ℕ) (old : State) → HasOnes old
    → HasOneOpens (with_opens node change old.opens)
opens_set change keeps node old h = set_lists (IsDistinct have_same_owner) (distinct_none have_same_owner) change keeps node old.opens h.opens

opens_dropped : (test : OpenState → Bool) (old : State) → HasOnes old → HasOneOpens (map (opens.without test) old.opens)
opens_dropped test old h =
    all_map (IsDistinct have_same_owner) (IsDistinct have_same_owner) (opens.without test) (λ xs k. opens_left test xs k) old.opens h.opens

locks_dropped : (test : ByteLocks → Bool) (old : State) → HasOnes old → HasOneLocks (map (locks.without test) old.locks)
locks_dropped test old h =
    all_map (IsDistinct have_same_lock_owner) (IsDistinct have_same_lock_owner) (locks.without test) (λ xs k. locks_left test xs k) old.locks h.locks

-- An OPEN, and a delegation that is lent.

ones_opened : (node : ℕ) (owner : OpenOwner) (share : Share) (old : State) → HasOnes old → HasOnes (with_open node owner share old)
ones_opened node owner share old h = record {
  opens = opens_set (with_opening owner share (old.last_state + 1)) (opening_one owner share (old.last_state + 1)) node old h;
  locks = h.locks;
}

ones_granted : (node : ℕ) (client : ClientId) (lent : Option DelegationKind) (old : State) → HasOnes old → HasOnes (with_grant node client lent old)
ones_granted node client None old h = h
ones_granted node client (Some kind) old h = record { opens = h.opens; locks = h.locks }

-- A change that is ready leaves one open and one lock state.
pub ones_changed : (change : Change) (old : State) → IsChangeReady change old → HasOnes old → HasOnes (with_state_change change old)
ones_changed changes.Nothing old ready h = h
ones_changed (changes.Clients (client_changes.Replaces r client)) old ready h = record {
  opens = opens_dropped (is_of_client client) old h;
  locks = locks_dropped (is_lock_of_client client) old h;
}
ones_changed (changes.Clients change) old ready h = record { opens = h.opens; locks = h.locks }
ones_changed (changes.Opens node owner share lent) old ready h = ones_granted node owner.client lent (with_open node owner share old) (ones_opened node owner share old h)
ones_changed (changes.Confirms node number owner) old ready h = record {
  opens = opens_set (with_each (is_numbered number) with_next_seqid) (each_one (is_numbered number) with_next_seqid (λ o. refl)) node old h;
  locks = h.locks;
}
ones_changed (changes.Downgrades node number share) old ready h = record {
  opens = opens_set (with_each (is_numbered number) (after_downgrade share)) (each_one (is_numbered number) (after_downgrade share) (λ o. refl)) node old h;
  locks = h.locks;
}
ones_changed (changes.Closes node number) old ready h = record {
  opens = opens_set (opens.without (is_numbered number)) (opens_left (is_numbered number)) node old h;
  locks = set_locks (IsDistinct have_same_lock_owner) (distinct_none have_same_lock_owner) (locks.without (is_under number)) (locks_left (is_under number)) node old.locks h.locks;
}
ones_changed (changes.Begins node first) old ready h =
    let here = locks_of node old.locks in
    let number = old.last_state + 1 in
    record {
      opens = h.opens;
      locks = all_set (IsDistinct have_same_lock_owner) old.locks node (with_first_lock first number here) h.locks
          (first_one first number here ready.3 (locks_at (IsDistinct have_same_lock_owner) (distinct_none have_same_lock_owner) node old.locks h.locks));
    }
ones_changed (changes.Locks node number change) old ready h = record {
  opens = h.opens;
  locks = set_locks (IsDistinct have_same_lock_owner) (distinct_none have_same_lock_owner) (with_lock_change number change) (changed_one number change) node old.locks h.locks;
}
ones_changed (changes.Releases owner) old ready h = record {
  opens = h.opens;
  locks = locks_dropped (is_lock_of owner) old h;
}
ones_changed (changes.Expires client) old ready h = record {
  opens = opens_dropped (is_of_client client) old h;
  locks = locks_dropped (is_lock_of_client client) old h;
}
ones_changed change old ready h = record { opens = h.opens; locks = h.locks }

-- So does what an entry means for an owner.
pub ones_owned : (change : OwnerChange) (number : ℕ) (old : State) → HasOnes old → HasOnes (with_owner_change change number old)
ones_owned owner_changes.Nothing number old h = h
ones_owned (owner_changes.Restarts name confirmed) number old h = record { opens = opens_dropped (λ o. is_same_owner o.owner name) old h; locks = h.locks }
ones_owned (owner_changes.Drops name) number old h = record { opens = opens_dropped (λ o. is_same_owner o.owner name) old h; locks = h.locks }
ones_owned change number old h = record { opens = h.opens; locks = h.locks }

pub ones_empty : (nodes : List Node) → HasOnes (empty_server nodes)
ones_empty nodes = record {
  opens = all_replicate (IsDistinct have_same_owner) [] (distinct_none have_same_owner) (node_count nodes);
  locks = all_replicate (IsDistinct have_same_lock_owner) [] (distinct_none have_same_lock_owner) (node_count nodes);
}
