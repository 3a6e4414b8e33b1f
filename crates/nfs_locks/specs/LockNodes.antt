-- How the nodes of lock states are kept beside those.
use Rattle.std.specs.Prelude.{◌≡◌, ℕ, List, map, min}
use Rattle.std.specs.List.{AllByRecursion}
use Rattle.std.specs.declared.hash.RandomState.{RandomState}
use Rattle.nfs_forms.specs.declared.lock_owner.LockOwner.{LockOwner}
use Rattle.nfs_locks.specs.KeptLocks.{owner_hash}
use Rattle.nfs_locks.specs.Locks.{ByteLocks}
use Rattle.nfs_locks.specs.StoredLocks.{StoredLocks}

abbrev pub number_of : ByteLocks → ℕ
number_of l = l.number

-- the lock states of a file, with room for no more of them than this
abbrev pub within_room : ℕ → StoredLocks → StoredLocks
within_room room f = record f { room = min room f.room }

-- by which keys the owners of each file's lock states are hashed
abbrev pub names_of : List StoredLocks → List RandomState
names_of files = map (λ f. f.names) files

-- all by this one
abbrev pub AreNamedBy : RandomState → List StoredLocks → Type 0
AreNamedBy names files = AllByRecursion (λ n. n ≡ names) (names_of files)

-- this is the owner's hash by each of them
abbrev pub HaveHash : ℕ → LockOwner → List StoredLocks → Type 0
HaveHash hash owner files = AllByRecursion (λ n. hash ≡ owner_hash n owner) (names_of files)
