-- What holds of the lock states of a file at all times.
use Rattle.std.specs.Prelude.{ℕ, Bool, true, ◌||◌, not, List, IsTrue, Option, Some, None, ⊤}
use Rattle.std.specs.List.{AllByRecursion}
use Rattle.nfs_forms.specs.declared.lock_owner.LockOwner.{LockOwner}
use Rattle.nfs_locks.specs.Locks.{ByteLocks, is_lock_of}
use Rattle.nfs_locks.specs.Report.{IsReport}
use Rattle.nfs_ranges.specs.Modes.{conflicts}
use Rattle.nfs_ranges.specs.declared.mode.Mode.{Mode}
use Rattle.nfs_ranges.specs.declared.piece.Piece.{Piece}
use Rattle.nfs_ranges.specs.declared.range.Range.{Range}

-- a byte may be held in both modes by two owners: one of them doesn't hold it, or both read
abbrev pub may_both : Option Mode → Option Mode → Bool
may_both None b = true
may_both (Some a) b = not (conflicts a b)

-- one owner has both lock states, or both may hold the byte as they do
abbrev pub are_compatible : ℕ → ByteLocks → ByteLocks → Bool
are_compatible byte a b = is_lock_of a.owner b || may_both (a.modes byte) (b.modes byte)

-- no byte is held by two owners, unless both hold it for reading (RFC 7530, section 9.3)
abbrev pub AllLocksAreCompatible : List ByteLocks → Type 0
AllLocksAreCompatible locks =
    (byte : ℕ) → AllByRecursion (λ a. AllByRecursion (λ b. IsTrue (are_compatible byte a b)) locks)
    locks

-- The bytes are free for the owner to hold them in this mode: no lock of another owner is in the way. To hold them no
-- longer is in nobody's way.
abbrev pub IsFreeIn : LockOwner → Option Mode → Range → List ByteLocks → Type 0
IsFreeIn owner None range locks = ⊤
IsFreeIn owner (Some mode) range locks = IsReport locks owner range mode None

-- the bytes are free for the owner's change
abbrev pub IsFreeFor : LockOwner → Piece → List ByteLocks → Type 0
IsFreeFor owner change locks = IsFreeIn owner change.mode change.range locks
