-- What contracts see of the ranges that one lock owner holds.
use Rattle.std.specs.Prelude.{◌≡◌, ℕ, ◌-◌, ◌^◌, ◌≤◌, List, Option, None}
use Rattle.nfs_ranges.specs.Modes.{with_change, modes_of}
use Rattle.nfs_ranges.specs.declared.mode.Mode.{Mode}
use Rattle.nfs_ranges.specs.declared.piece.Piece.{Piece}

-- pieces that give each byte its mode, and the room, which is above 0 where the next change takes no memory
pub record RoomyRanges : Type 0 where
  pub pieces : List Piece
  pub room : ℕ

-- the mode of each byte
abbrev pub modes_in : RoomyRanges → ℕ → Option Mode
modes_in held = modes_of held.pieces

-- the modes after a change
abbrev pub modes_after : Piece → RoomyRanges → ℕ → Option Mode
modes_after change held = with_change change (modes_in held)

-- no byte is held
abbrev pub IsFree : RoomyRanges → Type 0
IsFree held = (byte : ℕ) → byte ≤ 2 ^ 64 - 1 → modes_in held byte ≡ None
