-- The numbers of rows that are left stay below the next one.
use Rattle.std.proofs.Common.{ℕ, Bool, true, false, not, cond, List, [], ◌∷◌}
use Rattle.nfs_rows.specs.Rows.{IsAbove, Row, without}

pub above_without : (number : ℕ) (test : Row ℕ → Bool) (rows : List (Row ℕ)) → IsAbove number rows → IsAbove number (without test rows)
above_without number test [] above = tt
above_without number test (r ∷ rows) above = by (test r) (above_without number test rows above.1)
  where
    by : (b : Bool) → IsAbove number (without test rows) → IsAbove number (cond (not b) (r ∷ without test rows) (without test rows))
    by true rest = rest
    by false rest = (above.0, rest)
