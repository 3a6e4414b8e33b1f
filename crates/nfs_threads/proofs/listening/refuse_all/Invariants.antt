use Rattle.std.proofs.Common.{◌+◌, ◌≤◌, vec_capacity, vec_len}
use Rattle.std.specs.Vec.Iter.{into_iter_items, into_iter_len}
use Rattle.nfs_threads.specs.Worker.{AreEndsOf, AreUnused, seats_of}
use Rattle.nfs_server.specs.Serves.{served_by}
use Rattle.nfs_threads.specs.Links.{tcp}
use Rattle.nfs_threads.proofs.listening.refuse_all.Given as goal

abbrev pub invariant-loop-seat : goal.invariant-loop-seat
invariant-loop-seat g l = record {
  can : (goal.iterator-loop-seat g).can_next l.seat-iterator;
  finite : (goal.iterator-loop-seat g).is_finite l.seat-iterator;
  room : vec_len l.all + into_iter_len l.seat-iterator ≤ vec_capacity l.all;
  unused : AreUnused (seats_of (into_iter_items l.seat-iterator));
  ends : AreEndsOf (tcp (served_by g.N.Naming.start)) l.tree l.yielded l.all.items;
}
