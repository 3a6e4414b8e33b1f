-- The lock that is in the way of another one (RFC 7530, sections 16.10 and 16.11).
use Rattle.std.specs.Prelude.{◌≡◌, ℕ, ◌<◌, ◌≤◌, Bool, ◌&&◌, false, true, not, List, Option, Some, None, find}
use Rattle.std.specs.Cmp.Lexicographic.{slice_cmp}
use Rattle.std.specs.List.{AllByRecursion}
use Rattle.std.specs.Ordering.{is_gt, nat_cmp, ordering_then}
use Rattle.std.specs.declared.cmp.Ordering.{Ordering}
use Rattle.nfs_forms.specs.declared.lock_owner.LockOwner.{LockOwner}
use Rattle.nfs_locks.specs.Locks.{ByteLocks, is_lock_of}
use Rattle.nfs_ranges.specs.Bytes.{IsIn}
use Rattle.nfs_ranges.specs.Modes.{conflicts}
use Rattle.nfs_ranges.specs.Questions.{IsRunAt}
use Rattle.nfs_ranges.specs.declared.mode.Mode.{Mode}
use Rattle.nfs_ranges.specs.declared.range.Range.{Range}

-- the lock that is in the way: the bytes that its owner holds in one mode round the first byte where it is
pub record Report : Type 0 where
  pub range : Range
  pub mode : Mode
  pub owner : LockOwner

-- The order of lock owners: by the clientid as a number, whose upper half is the epoch, and then by their names byte by
-- byte.
abbrev pub owner_order : LockOwner → LockOwner → Ordering
owner_order a b =
    ordering_then (nat_cmp a.client.epoch b.client.epoch)
    (ordering_then (nat_cmp a.client.number b.client.number) (slice_cmp nat_cmp a.name b.name))

-- another owner has the lock state, and holds the byte in a mode that refuses a lock in this one
abbrev pub refuses : LockOwner → Mode → ℕ → ByteLocks → Bool
refuses owner mode byte l = not (is_lock_of owner l) && conflicts mode (l.modes byte)

-- the lock state refuses none of the bytes from the first on, before the end
abbrev pub IsClear : LockOwner → Mode → ℕ → ℕ → ByteLocks → Type 0
IsClear owner mode first end l =
    (byte : ℕ) → first ≤ byte → byte < end → refuses owner mode byte l ≡ false

-- if the lock state refuses the byte, this owner doesn't come after its owner
abbrev pub IsNotAfter : LockOwner → LockOwner → Mode → ℕ → ByteLocks → Type 0
IsNotAfter first owner mode byte l =
    refuses owner mode byte l ≡ true → is_gt (owner_order first l.owner) ≡ false

-- this owner has the lock state, which refuses the byte
abbrev pub refuses_for : LockOwner → LockOwner → Mode → ℕ → ByteLocks → Bool
refuses_for first owner mode byte l = is_lock_of first l && refuses owner mode byte l

-- the report is of the first lock state by which its owner refuses the byte: the run of the byte there
abbrev pub IsOfFirst : List ByteLocks → LockOwner → Mode → ℕ → Report → Type 0
IsOfFirst locks owner mode byte report =
    (l : ByteLocks) × (find (refuses_for report.owner owner mode byte) locks ≡ Some l)
    × IsRunAt l.modes byte (Some (report.range, report.mode))

-- The first byte of the range that is refused is this one, and the report is of the owner that comes first of those by
-- whose locks it is.
abbrev pub IsReportAt : List ByteLocks → LockOwner → Range → Mode → ℕ → Report → Type 0
IsReportAt locks owner range mode byte report =
    IsIn range byte
    × AllByRecursion (IsClear owner mode range.first byte) locks
    × AllByRecursion (IsNotAfter report.owner owner mode byte) locks
    × IsOfFirst locks owner mode byte report

-- The first byte of the range that is refused, with the report, if a byte of it is refused.
abbrev pub IsMeeting : List ByteLocks → LockOwner → Range → Mode → Option (ℕ × Report) → Type 0
IsMeeting locks owner range mode None =
    AllByRecursion (λ l. (byte : ℕ) → IsIn range byte → refuses owner mode byte l ≡ false) locks
IsMeeting locks owner range mode (Some meeting) =
    IsReportAt locks owner range mode meeting.0 meeting.1

-- The report to the owner that wants the range in this mode; there is none if no byte of it is refused.
abbrev pub IsReport : List ByteLocks → LockOwner → Range → Mode → Option Report → Type 0
IsReport locks owner range mode None = IsMeeting locks owner range mode None
IsReport locks owner range mode (Some report) =
    (byte : ℕ) × IsReportAt locks owner range mode byte report
