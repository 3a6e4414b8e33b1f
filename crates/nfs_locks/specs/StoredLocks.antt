-- What is stored of a lock state: pieces that give each byte its mode. Their room is left out.
use Rattle.std.specs.Prelude.{ℕ, Bool, List, map}
use Rattle.std.specs.declared.hash.RandomState.{RandomState}
use Rattle.nfs_forms.specs.declared.lock_owner.LockOwner.{LockOwner}
use Rattle.nfs_locks.specs.Locks.{ByteLocks}
use Rattle.nfs_locks.specs.declared.lock_state.LockState.{LockState}
use Rattle.nfs_ranges.specs.Modes.{modes_of}
use Rattle.nfs_ranges.specs.declared.piece.Piece.{Piece}

pub record StoredLock : Type 0 where
  pub owner : LockOwner
  pub open_number : ℕ
  pub number : ℕ
  pub seqid : ℕ
  pub pieces : List Piece

abbrev pub stored_lock : LockState → StoredLock
stored_lock l = record {
  owner = l.owner;
  open_number = l.open_number;
  number = l.number;
  seqid = l.seqid;
  pieces = l.ranges.pieces;
}

-- the lock state that is stored so
abbrev pub byte_locks : StoredLock → ByteLocks
byte_locks l = record {
  owner = l.owner;
  open_number = l.open_number;
  number = l.number;
  seqid = l.seqid;
  modes = modes_of l.pieces;
}

abbrev pub lock_seen : LockState → ByteLocks
lock_seen l = byte_locks (stored_lock l)

-- The lock states of a file in the order in which they began, how many more can begin without taking memory, whether
-- there are ranges for the next one that are free and have room, and the key of the hashes of their owners.
pub record StoredLocks : Type 0 where
  pub states : List LockState
  pub room : ℕ
  pub spare : Bool
  pub names : RandomState

-- what is stored of the lock states of a file, no matter how much room they have
abbrev pub stored_locks : List LockState → List StoredLock
stored_locks states = map stored_lock states

-- the lock states of a file, no matter how they are stored
abbrev pub locks_seen : List LockState → List ByteLocks
locks_seen states = map lock_seen states
