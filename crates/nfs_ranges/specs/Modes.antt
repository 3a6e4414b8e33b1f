-- In which mode each byte is held (RFC 7530, sections 9.2 and 9.3): a function from bytes to modes, and None for a byte
-- that isn't held. So a change is an equation of functions, however the pieces are kept that they come from.
use Rattle.std.specs.Prelude.{ℕ, Bool, true, false, List, [], ◌∷◌, Option, Some, None, if◌then◌else◌}
use Rattle.nfs_ranges.specs.Bytes.{has}
use Rattle.nfs_ranges.specs.declared.mode.Mode.{Mode}
use Rattle.nfs_ranges.specs.declared.mode.Mode.TheVariants.{Read, Write}
use Rattle.nfs_ranges.specs.declared.piece.Piece.{Piece}
use Rattle.nfs_ranges.specs.declared.range.Range.{Range}

-- the modes, with this one on the bytes of a range
abbrev pub with_mode : Range → Option Mode → (ℕ → Option Mode) → ℕ → Option Mode
with_mode range mode modes = λ byte. if has range byte then mode else modes byte

-- the modes after a change
abbrev pub with_change : Piece → (ℕ → Option Mode) → ℕ → Option Mode
with_change change modes = with_mode change.range change.mode modes

-- the mode of a byte, which was this one before the pieces came
abbrev pub mode_from : Option Mode → List Piece → ℕ → Option Mode
mode_from mode [] byte = mode
mode_from mode (piece ∷ pieces) byte =
    mode_from (if has piece.range byte then piece.mode else mode) pieces byte

-- What the pieces mean: the mode of a byte is that of the last piece that has it, and it isn't held where none has it.
abbrev pub modes_of : List Piece → ℕ → Option Mode
modes_of pieces = λ byte. mode_from None pieces byte

-- the two are the same
abbrev pub is_same : Option Mode → Option Mode → Bool
is_same None None = true
is_same None (Some b) = false
is_same (Some a) None = false
is_same (Some Read) (Some Read) = true
is_same (Some Read) (Some Write) = false
is_same (Some Write) (Some Read) = false
is_same (Some Write) (Some Write) = true

-- A lock is refused by the mode in which another owner holds a byte: one of the two writes (section 16.10).
abbrev pub conflicts : Mode → Option Mode → Bool
conflicts asked None = false
conflicts Write (Some held) = true
conflicts Read (Some Read) = false
conflicts Read (Some Write) = true
