-- What contracts see of a seat, and of the words.
use Rattle.std.specs.Prelude.{ℕ}
use Rattle.atomic_table.specs.Seated.{TableId}
use Rattle.nfs_words.specs.declared.rule.View.{View}

-- a seat: the table that it is of, and its view
pub record Sitting : Type 0 where
  pub table : TableId
  pub view : View

-- the words: their table, and how long a lease lasts, in seconds
pub record Words : Type 0 where
  pub table : TableId
  pub lease : ℕ
