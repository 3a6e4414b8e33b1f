use Rattle.std.proofs.Common.{◌≡◌, ◌+◌, ◌++◌, length}
use Rattle.std.specs.Vec.Iter.{into_iter_items}
use Rattle.rows.proofs.seats_back.SeatsBack.hand_in_unused.Given as goal

abbrev pub invariant-loop-seat : goal.invariant-loop-seat
invariant-loop-seat g l = record {
  can : (goal.iterator-loop-seat g).can_next l.seat-iterator;
  finite : (goal.iterator-loop-seat g).is_finite l.seat-iterator;
  count : length l.self.seats ≡ length l.initial.self.seats + length l.yielded;
  whole : into_iter_items l.fn.seats ≡ l.yielded ++ into_iter_items l.seat-iterator;
}
