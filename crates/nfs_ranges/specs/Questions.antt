-- What is asked of the modes of the bytes, for a lock that another owner wants (RFC 7530, sections 16.10 and 16.11).
use Rattle.std.specs.Prelude.{◌≡◌, ◌⊎◌, ℕ, ◌+◌, ◌-◌, ◌^◌, ◌<◌, ◌≤◌, true, false, Bool, ◌||◌, nat_lt, Option, Some, None}
use Rattle.nfs_ranges.specs.Bytes.{IsIn}
use Rattle.nfs_ranges.specs.Modes.{conflicts, is_same}
use Rattle.nfs_ranges.specs.declared.mode.Mode.{Mode}
use Rattle.nfs_ranges.specs.declared.piece.Piece.{Piece}
use Rattle.nfs_ranges.specs.declared.range.Range.{Range}

-- The first byte of the range where a lock with the asked mode would be refused, if there is one.
abbrev pub IsFirstConflict : (ℕ → Option Mode) → Range → Mode → Option ℕ → Type 0
IsFirstConflict modes range asked None =
    (byte : ℕ) → IsIn range byte → conflicts asked (modes byte) ≡ false
IsFirstConflict modes range asked (Some first) =
    IsIn range first × (conflicts asked (modes first) ≡ true)
    × ((byte : ℕ) → range.first ≤ byte → byte < first → conflicts asked (modes byte) ≡ false)

-- A walk over runs up to a byte, for a lock with the asked mode, stops at this one: it begins behind the byte, or
-- refuses.
abbrev pub stops : ℕ → Mode → Piece → Bool
stops last asked p = nat_lt last p.range.first || conflicts asked p.mode

-- from the first to the last, all bytes have the mode of this one
abbrev pub AreAs : (ℕ → Option Mode) → ℕ → ℕ → ℕ → Type 0
AreAs modes byte first last = (b : ℕ) → first ≤ b → b ≤ last → modes b ≡ modes byte

-- The longest stretch round a byte in which all have its mode begins here: it is byte 0, or the one before has another.
abbrev pub IsLeastSame : (ℕ → Option Mode) → ℕ → ℕ → Type 0
IsLeastSame modes byte first =
    (first ≤ byte) × AreAs modes byte first byte
    × ((first ≡ 0) ⊎ (is_same (modes (first - 1)) (modes byte) ≡ false))

-- The longest stretch round a byte in which all have its mode ends here: it is byte 2^64 - 1, or the next one has
-- another.
abbrev pub IsLastSame : (ℕ → Option Mode) → ℕ → ℕ → Type 0
IsLastSame modes byte last =
    (byte ≤ last) × (last ≤ 2 ^ 64 - 1) × AreAs modes byte byte last
    × ((last ≡ 2 ^ 64 - 1) ⊎ (is_same (modes (last + 1)) (modes byte) ≡ false))

-- The run that has the byte, with its mode; there is none where the byte isn't held.
abbrev pub IsRunAt : (ℕ → Option Mode) → ℕ → Option (Range × Mode) → Type 0
IsRunAt modes byte None = modes byte ≡ None
IsRunAt modes byte (Some run) =
    (modes byte ≡ Some run.1) × IsLeastSame modes byte run.0.first
    × IsLastSame modes byte run.0.last
