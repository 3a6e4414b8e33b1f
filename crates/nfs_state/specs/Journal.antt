-- A journal with the room that was made in it.
use Rattle.std.specs.Prelude.{ℕ}
use Rattle.nfs_state.specs.State.{History}

pub record RoomyJournal : Type 0 where
  pub history : History
  -- how many entries it can gain without memory
  pub room : ℕ
