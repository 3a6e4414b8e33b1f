-- Whether runs, which may come from several lists, hold all bytes of a range.
use Rattle.std.specs.Prelude.{◌≡◌, ℕ, Bool, true, false, ◌&&◌, List, Option, Some, None}
use Rattle.std.specs.List.{list_any}
use Rattle.nfs_ranges.specs.Bytes.{IsIn, has}
use Rattle.nfs_ranges.specs.declared.mode.Mode.{Mode}
use Rattle.nfs_ranges.specs.declared.mode.Mode.TheVariants.{Read, Write}
use Rattle.nfs_ranges.specs.declared.piece.Piece.{Piece}
use Rattle.nfs_ranges.specs.declared.range.Range.{Range}

-- a byte that is held so is held in the asked mode, or for writing
abbrev pub suffices : Mode → Option Mode → Bool
suffices asked None = false
suffices asked (Some Write) = true
suffices Read (Some Read) = true
suffices Write (Some Read) = false

-- the run has the byte in the mode, or for writing
abbrev pub gives : Mode → ℕ → Piece → Bool
gives mode byte run = has run.range byte && suffices mode run.mode

-- each byte of the range is in one of the runs in the mode, or for writing
abbrev pub Covers : List Piece → Range → Mode → Type 0
Covers runs range mode = (byte : ℕ) → IsIn range byte → list_any (gives mode byte) runs ≡ true
