-- How the lock states of a file are kept: in rows that are found by number and by the keyed hash of their owner.
use Rattle.std.specs.Prelude.{◌≡◌, ℕ, ◌+◌, ◌*◌, ◌<◌, ◌^◌, List, map}
use Rattle.std.specs.List.{AllByRecursion}
use Rattle.std.specs.declared.hash.RandomState.{RandomState}
use Rattle.nfs_forms.specs.declared.lock_owner.LockOwner.{LockOwner}
use Rattle.nfs_locks.specs.declared.lock_state.LockState.{LockState}
use Rattle.nfs_rows.specs.NameHash.{hash_of}
use Rattle.nfs_rows.specs.Rows.{Row, StandSo}

-- the keyed hash of a lock owner: of its clientid as a number, and of its name
abbrev pub owner_hash : RandomState → LockOwner → ℕ
owner_hash names owner =
    hash_of names (owner.client.epoch * 2 ^ 32 + owner.client.number) 0 owner.name

-- the lock states that are in rows
abbrev pub states_of : List (Row LockState) → List LockState
states_of rows = map (λ r. r.value) rows

-- the row says of its lock state what it is found by
pub record IsRowOf (names : RandomState) (r : Row LockState) : Type 0 where
  pub numbered : r.number ≡ r.value.number
  pub hashed : r.hash ≡ owner_hash names r.value.owner
  pub of_client : r.client ≡ r.value.owner.client.number

-- each row says of its lock state what it is found by
abbrev pub AreRowsOf : RandomState → List (Row LockState) → Type 0
AreRowsOf names rows = AllByRecursion (IsRowOf names) rows

-- each row says of its lock state of which client it is
abbrev pub AreOfClients : List (Row LockState) → Type 0
AreOfClients rows = AllByRecursion (λ r. r.client ≡ r.value.owner.client.number) rows

-- each number is above those before it
abbrev pub NumbersRise : List LockState → Type 0
NumbersRise states = StandSo (λ l m. l.number < m.number) states
