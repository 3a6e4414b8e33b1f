-- The opens, the delegations and the lock states of each file, where those of one file or of all change.
use Rattle.std.proofs.Common.{◌≡◌, ℕ, zero, suc, List, [], ◌∷◌, map, slice_set, refl, sym, ap}
use Rattle.std.specs.List.{AllByRecursion}
use Rattle.nfs_core.proofs.SafeLists.{all_set}
use Rattle.nfs_locks.specs.AllLocks.{locks_of, with_locks}
use Rattle.nfs_locks.specs.Locks.{ByteLocks}
use Rattle.nfs_share.specs.AllOpens.{list_at, with_list_at}

-- The opens, and the delegations.

-- what holds of the list at each node
pub lists_at : {X : Type 0} (P : List X → Type 0) → P [] → (node : ℕ) (lists : List (List X)) → AllByRecursion P lists → P (list_at node lists)
lists_at P none node [] h = none
lists_at P none zero (xs ∷ lists) h = h.0
lists_at P none (suc node) (xs ∷ lists) h = lists_at P none node lists h.1

pub set_lists : {X : Type 0} (P : List X → Type 0) → P [] → (change : List X → List X) → ((xs : List X) → P xs → P (change xs)) → (node : ℕ) (lists : List (List X)) → AllByRecursion P lists → AllByRecursion P (with_list_at node change lists)
set_lists P none change step node lists h =
    all_set P lists node (change (list_at node lists)) h (step (list_at node lists) (lists_at P none node lists h))

-- the list at a node, where that at another or at this one is changed
pub lists_where_set : {X : Type 0} (P : List X → Type 0) (node changed : ℕ) (lists : List (List X)) (new : List X) → P (list_at node lists) → (node ≡ changed → P new) → P (list_at node (slice_set lists changed new))
lists_where_set P node changed [] new before after = before
lists_where_set P zero zero (xs ∷ lists) new before after = after refl
lists_where_set P zero (suc changed) (xs ∷ lists) new before after = before
lists_where_set P (suc node) zero (xs ∷ lists) new before after = before
lists_where_set P (suc node) (suc changed) (xs ∷ lists) new before after =
    lists_where_set P node changed lists new before (λ same. after (ap (λ n. suc n) same))

-- the list at a node, where all are changed
pub lists_of_map : {X : Type 0} (change : List X → List X) → change [] ≡ [] → (node : ℕ) (lists : List (List X)) → list_at node (map change lists) ≡ change (list_at node lists)
lists_of_map change none node [] = sym none
lists_of_map change none zero (xs ∷ lists) = refl
lists_of_map change none (suc node) (xs ∷ lists) = lists_of_map change none node lists

-- The lock states.

pub locks_at : (P : List ByteLocks → Type 0) → P [] → (node : ℕ) (locks : List (List ByteLocks)) → AllByRecursion P locks → P (locks_of node locks)
locks_at P none node [] h = none
locks_at P none zero (xs ∷ locks) h = h.0
locks_at P none (suc node) (xs ∷ locks) h = locks_at P none node locks h.1

pub set_locks : (P : List ByteLocks → Type 0) → P [] → (change : List ByteLocks → List ByteLocks) → ((xs : List ByteLocks) → P xs → P (change xs)) → (node : ℕ) (locks : List (List ByteLocks)) → AllByRecursion P locks → AllByRecursion P (with_locks node change locks)
set_locks P none change step node locks h =
    all_set P locks node (change (locks_of node locks)) h (step (locks_of node locks) (locks_at P none node locks h))

pub locks_where_set : (P : List ByteLocks → Type 0) (node changed : ℕ) (locks : List (List ByteLocks)) (new : List ByteLocks) → P (locks_of node locks) → (node ≡ changed → P new) → P (locks_of node (slice_set locks changed new))
locks_where_set P node changed [] new before after = before
locks_where_set P zero zero (xs ∷ locks) new before after = after refl
locks_where_set P zero (suc changed) (xs ∷ locks) new before after = before
locks_where_set P (suc node) zero (xs ∷ locks) new before after = before
locks_where_set P (suc node) (suc changed) (xs ∷ locks) new before after =
    locks_where_set P node changed locks new before (λ same. after (ap (λ n. suc n) same))

-- the lock states of a node, where those of this one are changed; there are none where there is no such node
pub locks_set : (P : List ByteLocks → Type 0) → P [] → (node : ℕ) (locks : List (List ByteLocks)) (new : List ByteLocks) → P new → P (locks_of node (slice_set locks node new))
locks_set P none node [] new h = none
locks_set P none zero (xs ∷ locks) new h = h
locks_set P none (suc node) (xs ∷ locks) new h = locks_set P none node locks new h

pub locks_of_map : (change : List ByteLocks → List ByteLocks) → change [] ≡ [] → (node : ℕ) (locks : List (List ByteLocks)) → locks_of node (map change locks) ≡ change (locks_of node locks)
locks_of_map change none node [] = sym none
locks_of_map change none zero (xs ∷ locks) = refl
locks_of_map change none (suc node) (xs ∷ locks) = locks_of_map change none node locks
