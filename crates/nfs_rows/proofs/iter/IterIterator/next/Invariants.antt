use Rattle.std.proofs.Common.{◌≡◌, length, map}
use Rattle.std.specs.List.{AllByRecursion}
use Rattle.nfs_rows.specs.Rows.{pair_of}
use Rattle.nfs_rows.specs.Places.{HasRow, kept, rows_at}
use Rattle.nfs_rows.proofs.iter.IterIterator.next.Given as goal

-- only marks were passed over
abbrev pub invariant-loop-place : goal.invariant-loop-place
invariant-loop-place g l = record {
  there : AllByRecursion (HasRow l.self-inside.slab.now) (kept l.self-inside.places.now);
  rest : map pair_of (rows_at l.self-inside.slab.now l.self-inside.places.now) ≡ l.fn.self;
}

abbrev pub decreases-loop-place : goal.decreases-loop-place
decreases-loop-place g l = length l.self-inside.places.now
