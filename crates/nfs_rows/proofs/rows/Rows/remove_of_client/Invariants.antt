use Rattle.std.proofs.Common.{Bool}
use Rattle.nfs_rows.specs.Rows.{AnswersAs, is_of_client}
use Rattle.nfs_rows.proofs.Clearing.{Clears, Stands}
use Rattle.nfs_rows.proofs.rows.Rows.remove_of_client.Given as goal

abbrev pub invariant-loop-at : goal.invariant-loop-at
invariant-loop-at g l = record {
  stands : Stands l.fn.self.room l.at-end l.self-inside.slab l.self-inside.places l.self-inside.index l.self-inside.clashed l.self-inside.room;
  clears : (p : g.row.T.Denot → Bool) → AnswersAs g.F.Fn l.test p
      → Clears (is_of_client l.client p) l.fn.self.rows l.at l.self-inside.slab l.self-inside.places.items;
}
