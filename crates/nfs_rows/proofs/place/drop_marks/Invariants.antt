use Rattle.std.proofs.Common.{◌≡◌, ◌≤◌, vec_capacity, vec_len}
use Rattle.nfs_rows.specs.Places.{NumbersRise, kept}
use Rattle.nfs_rows.proofs.place.drop_marks.Given as goal

-- only marks were dropped
abbrev pub invariant-loop-place : goal.invariant-loop-place
invariant-loop-place l = record {
  kept : kept l.places.items ≡ kept l.fn.places.items;
  rise : NumbersRise l.places.items;
  length : vec_len l.places ≤ vec_len l.fn.places;
  capacity : vec_capacity l.places ≡ vec_capacity l.fn.places;
}

abbrev pub decreases-loop-place : goal.decreases-loop-place
decreases-loop-place l = goal.left-loop-place l
