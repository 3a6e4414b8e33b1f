-- Who sweeps the state that threads share.
use Rattle.std.specs.Prelude.{ℕ}

-- what is needed to sweep
pub record SweeperView : Type 0 where
  -- how many entries of the journal came by it
  pub count : ℕ
