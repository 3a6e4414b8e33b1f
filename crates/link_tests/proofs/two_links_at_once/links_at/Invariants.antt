use Rattle.std.proofs.Common.{◌≡◌}
use Rattle.nfs_threads.specs.Worker.{seats_of}
use Rattle.link_tests.proofs.two_links_at_once.links_at.Given as goal

abbrev pub invariant-loop-seat : goal.invariant-loop-seat
invariant-loop-seat g l = record {
  can : (goal.iterator-loop-seat g).can_next l.seat-iterator;
  finite : (goal.iterator-loop-seat g).is_finite l.seat-iterator;
  seats : seats_of l.links.items ≡ l.yielded;
}
