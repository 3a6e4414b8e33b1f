-- A list in pieces, with the room that was made in it.
use Rattle.std.specs.Prelude.{ℕ, ◌-◌, ◌%◌, List, drop, take}
use Rattle.nfs_state.specs.declared.piece_list.TheConstants.{PIECE_LEN}

pub record RoomyList (A : Type 0) : Type 0 where
  pub items : List A
  -- how many items it can gain without memory
  pub room : ℕ

-- the items from this number on, up to the end of their piece
abbrev pub piece_from : {A : Type 0} → ℕ → List A → List A
piece_from number items = take (PIECE_LEN - number % PIECE_LEN) (drop number items)
