use Rattle.std.proofs.Common.{◌≡◌, ◌+◌, ◌++◌, length}
use Rattle.std.specs.Vec.Iter.{into_iter_items}
use Rattle.rows.proofs.seats_back.SeatsBack.hand_in_all.Given as goal

abbrev pub invariant-loop-end : goal.invariant-loop-end
invariant-loop-end g l = record {
  can : (goal.iterator-loop-end g).can_next l.end-iterator;
  finite : (goal.iterator-loop-end g).is_finite l.end-iterator;
  count : length l.self.seats ≡ length l.initial.self.seats + length l.yielded;
  whole : l.fn.ends.items ≡ l.yielded ++ into_iter_items l.end-iterator;
}
