-- What rows end as, where a `&mut` to one of their values is returned.
use Rattle.std.specs.Prelude.{ℕ, Option}
use Rattle.std.specs.Borrow.{LendsIf, Fml, RattleType, MutBor}
use Rattle.nfs_rows.specs.Rows.{RoomyRows, with_value}
use Rattle.nfs_rows.specs.contracts.rows.Rows.{the_row}

-- Once the borrow ends, the row with the number has the last value written through it; where there is none, nothing
-- changes.
abbrev pub lends_value : (T : RattleType) → MutBor (RoomyRows T.Denot) → ℕ → Option (MutBor T.Denot) → Fml
lends_value T s number r =
    LendsIf (the_row T) T s r (λ value. record s.now { rows = with_value number value s.now.rows }) s.now
