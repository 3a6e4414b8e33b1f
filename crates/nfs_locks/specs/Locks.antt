-- The lock states of a file (RFC 7530, sections 9.1.4 and 16.10 to 16.12): each is what one lock owner holds of it.
use Rattle.std.specs.Prelude.{ℕ, ◌<◌, Bool, ◌&&◌, ◌==◌, nat_lt, not, if◌then◌else◌, List, [], ◌∷◌, ◌++◌, filter, find, map, Option}
use Rattle.std.specs.List.{AllByRecursion, list_any}
use Rattle.nfs_forms.specs.ClientId.{is_same_client}
use Rattle.nfs_forms.specs.LockOwner.{is_same_lock_owner}
use Rattle.nfs_forms.specs.Stateid.{seqid_after_change, next_stateid}
use Rattle.nfs_forms.specs.declared.client_id.ClientId.{ClientId}
use Rattle.nfs_forms.specs.declared.lock_owner.LockOwner.{LockOwner}
use Rattle.nfs_forms.specs.declared.stateid.Stateid.{Stateid}
use Rattle.nfs_locks.specs.declared.first_lock.FirstLock.{FirstLock}
use Rattle.nfs_ranges.specs.Modes.{with_change, modes_of}
use Rattle.nfs_ranges.specs.Runs.{runs}
use Rattle.nfs_ranges.specs.declared.limits.TheConstants.{RUN_LIMIT}
use Rattle.nfs_ranges.specs.declared.mode.Mode.{Mode}
use Rattle.nfs_ranges.specs.declared.piece.Piece.{Piece}

pub record ByteLocks : Type 0 where
  pub owner : LockOwner
  -- the number of the open under which the owner's first lock of the file came
  pub open_number : ℕ
  -- the number and the seqid in its stateid
  pub number : ℕ
  pub seqid : ℕ
  -- in which mode each byte is held
  pub modes : ℕ → Option Mode

-- the owner has the lock state
abbrev pub is_lock_of : LockOwner → ByteLocks → Bool
is_lock_of owner l = is_same_lock_owner l.owner owner

-- an owner of the client has the lock state
abbrev pub is_lock_of_client : ClientId → ByteLocks → Bool
is_lock_of_client client l = is_same_client l.owner.client client

-- the lock state began under the open with this number
abbrev pub is_under : ℕ → ByteLocks → Bool
is_under open_number l = l.open_number == open_number

-- the lock state's stateid has this number
abbrev pub is_numbered : ℕ → ByteLocks → Bool
is_numbered number l = l.number == number

-- the stateid is one of the lock state's, no matter its seqid (section 9.1.4)
abbrev pub is_stateid_of : Stateid → ByteLocks → Bool
is_stateid_of stateid l = is_lock_of_client stateid.client l && is_numbered stateid.number l

-- the lock state of the owner, if there is one
abbrev pub lock_of : LockOwner → List ByteLocks → Option ByteLocks
lock_of owner locks = find (is_lock_of owner) locks

-- the lock state that the stateid names, if there is one
abbrev pub lock_named_by : Stateid → List ByteLocks → Option ByteLocks
lock_named_by stateid locks = find (is_stateid_of stateid) locks

-- a byte is held: there is a run of such bytes
abbrev pub holds_bytes : ByteLocks → Bool
holds_bytes l = nat_lt 0 (runs l.modes)

-- a lock state under the open with this number holds a byte
abbrev pub holds_under : ℕ → List ByteLocks → Bool
holds_under open_number locks = list_any (λ l. is_under open_number l && holds_bytes l) locks

-- the lock state's stateid (section 9.1.4)
abbrev pub stateid_of : ByteLocks → Stateid
stateid_of l = record { seqid = l.seqid; client = l.owner.client; number = l.number }

-- the lock state's stateid after its next change
abbrev pub next_stateid_of : ByteLocks → Stateid
next_stateid_of l = next_stateid (stateid_of l)

-- the lock state that an owner's first lock of the file makes
abbrev pub first_state : FirstLock → ℕ → ByteLocks
first_state first number = record {
  owner = first.owner;
  open_number = first.open_number;
  number = number;
  seqid = 1;
  modes = with_change first.change (modes_of []);
}

-- the lock state after a LOCK or LOCKU of the bytes of a range
abbrev pub after_change : Piece → ByteLocks → ByteLocks
after_change change l = record l {
  seqid = seqid_after_change l.seqid;
  modes = with_change change l.modes;
}

-- the runs of bytes would be more than an owner may have of a file
abbrev pub would_be_full : Piece → ByteLocks → Bool
would_be_full change l = nat_lt RUN_LIMIT (runs (with_change change l.modes))

-- the lock states, with a first one of an owner
abbrev pub with_first_lock : FirstLock → ℕ → List ByteLocks → List ByteLocks
with_first_lock first number locks = locks ++ first_state first number ∷ []

-- the lock states, with a change of the one with this number
abbrev pub with_lock_change : ℕ → Piece → List ByteLocks → List ByteLocks
with_lock_change number change locks =
    map (λ l. if is_numbered number l then after_change change l else l) locks

-- the lock states without those that pass the test
abbrev pub without : (ByteLocks → Bool) → List ByteLocks → List ByteLocks
without test locks = filter (λ l. not (test l)) locks

-- each lock state has a lower number
abbrev pub IsAbove : ℕ → List ByteLocks → Type 0
IsAbove number locks = AllByRecursion (λ l. l.number < number) locks
