-- The lock states of all files: those of each node of the tree, by its number.
use Rattle.std.specs.Prelude.{◌≡◌, ℕ, ◌+◌, ◌<◌, Bool, ◌&&◌, List, [], ◌∷◌, length, map, option_map, position, slice_get, slice_set, IfSome, IsTrue, Option, Some, None}
use Rattle.std.specs.List.{list_any, AllByRecursion}
use Rattle.nfs_forms.specs.declared.lock_owner.LockOwner.{LockOwner}
use Rattle.nfs_forms.specs.declared.stateid.Stateid.{Stateid}
use Rattle.nfs_locks.specs.Locks.{ByteLocks, IsAbove, holds_bytes, is_lock_of, is_numbered, is_stateid_of, lock_named_by, would_be_full}
use Rattle.nfs_locks.specs.StoredLocks.{StoredLock, StoredLocks, byte_locks, stored_lock}
use Rattle.nfs_locks.specs.declared.lock_state.LockState.{LockState}
use Rattle.nfs_ranges.specs.declared.piece.Piece.{Piece}

-- a lock state, and the node of its file
pub record LockAt : Type 0 where
  pub node : ℕ
  pub state : ByteLocks

-- what is stored of each file's lock states, no matter how much room they have
abbrev pub stored_in : List StoredLocks → List (List StoredLock)
stored_in files = map (λ f. map stored_lock f.states) files

-- the lock states of each file
abbrev pub locks_in : List StoredLocks → List (List ByteLocks)
locks_in files = map (map byte_locks) (stored_in files)

-- the lock states of a node; none where there is no such node
abbrev pub locks_or_none : Option (List ByteLocks) → List ByteLocks
locks_or_none None = []
locks_or_none (Some locks) = locks

abbrev pub locks_of : ℕ → List (List ByteLocks) → List ByteLocks
locks_of node locks = locks_or_none (slice_get locks node)

-- how many lock states there are
abbrev pub lock_count : List (List ByteLocks) → ℕ
lock_count [] = 0
lock_count (locks ∷ more) = length locks + lock_count more

-- the lock states, with a change of those of one node
abbrev pub with_locks : ℕ → (List ByteLocks → List ByteLocks) → List (List ByteLocks)
    → List (List ByteLocks)
with_locks node change locks = slice_set locks node (change (locks_of node locks))

-- the lock state, if there is one, as one of this node's file
abbrev pub at_node : ℕ → Option ByteLocks → Option LockAt
at_node node found = option_map (λ l. record { node = node; state = l }) found

-- the lock state that the stateid names, given the node that has one
abbrev pub named_at : Stateid → List (List ByteLocks) → Option ℕ → Option LockAt
named_at id locks None = None
named_at id locks (Some node) = at_node node (lock_named_by id (locks_of node locks))

-- the lock state that the stateid names, no matter its seqid, if there is one
abbrev pub lock_named_in : Stateid → List (List ByteLocks) → Option LockAt
lock_named_in id locks = named_at id locks (position (list_any (is_stateid_of id)) locks)

-- the owner holds a byte of a file
abbrev pub holds : LockOwner → List (List ByteLocks) → Bool
holds owner locks = list_any (list_any (λ l. is_lock_of owner l && holds_bytes l)) locks

-- a change of the lock state with this number would make more runs of bytes than an owner may have of a file
abbrev pub is_full_for : ℕ → Piece → List ByteLocks → Bool
is_full_for number change locks =
    list_any (λ l. is_numbered number l && would_be_full change l) locks

-- each lock state of each file has a lower number
abbrev pub IsAboveAll : ℕ → List (List ByteLocks) → Type 0
IsAboveAll number locks = AllByRecursion (IsAbove number) locks

-- a first lock takes no memory: there is room for its state, and ranges are made for it
abbrev pub HasLockRoom : StoredLocks → Type 0
HasLockRoom f = (0 < f.room) × IsTrue f.spare

-- a first lock of a node's file takes no memory
abbrev pub HasLockRoomAt : ℕ → List StoredLocks → Type 0
HasLockRoomAt node files = IfSome (slice_get files node) HasLockRoom

-- the next change of the lock state takes no memory, if it has this number
abbrev pub HasRangeRoom : ℕ → LockState → Type 0
HasRangeRoom number l = l.number ≡ number → 0 < l.ranges.room

-- the next change of the lock state of a node's file with this number takes no memory
abbrev pub HasRoomFor : ℕ → ℕ → List StoredLocks → Type 0
HasRoomFor node number files =
    IfSome (slice_get files node) (λ f. AllByRecursion (HasRangeRoom number) f.states)
