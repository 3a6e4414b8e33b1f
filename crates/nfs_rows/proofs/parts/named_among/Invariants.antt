use Rattle.std.proofs.Common.{◌≡◌, Bool, drop, find}
use Rattle.nfs_rows.specs.Rows.{AnswersAs, is_named}
use Rattle.nfs_rows.specs.Places.{rows_at}
use Rattle.nfs_rows.proofs.parts.named_among.Given as goal

-- the first such row of all is that of those that are left
abbrev pub invariant-loop-place : goal.invariant-loop-place
invariant-loop-place g l = record {
  rest : (p : g.row.T.Denot → Bool) → AnswersAs g.F.Fn l.test p
      → find (is_named l.hash p) (rows_at l.slab (drop l.place-index l.places)) ≡ find (is_named l.hash p) (rows_at l.slab l.places);
}
