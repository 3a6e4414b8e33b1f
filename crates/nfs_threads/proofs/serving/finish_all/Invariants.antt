use Rattle.std.proofs.Common.{◌≡◌, ◌+◌, ◌≤◌, List, length, vec_capacity, vec_len}
use Rattle.std.specs.Vec.Iter.{into_iter_items, into_iter_len}
use Rattle.nfs_shared.specs.Seats.{SeatView}
use Rattle.nfs_tree.specs.Tree.{Files}
use Rattle.nfs_threads.specs.WorkerThread.{AreWorkers}
use Rattle.nfs_threads.specs.Worker.{linking}
use Rattle.nfs_threads.proofs.Workers.{Completes}
use Rattle.nfs_threads.proofs.serving.finish_all.Given as goal
use Rattle.nfs_server.specs.Serves.{served_by}

-- The workers that are left are those of some links; what is done of these is, after what is done so far, what is done
-- of all links.
abbrev pub invariant-loop-worker : goal.invariant-loop-worker
invariant-loop-worker g l = record {
  can : (goal.iterator-loop-worker g).can_next l.worker-iterator;
  finite : (goal.iterator-loop-worker g).is_finite l.worker-iterator;
  count : length (into_iter_items l.worker-iterator) ≡ into_iter_len l.worker-iterator;
  room : vec_len l.ends + into_iter_len l.worker-iterator ≤ vec_capacity l.ends;
  completes : (tree : Files) (links : List (g.row.L.Denot × SeatView))
      → AreWorkers (linking g.L.Links g.L.Device.Duplex g.L.Clock.Clock (served_by g.N.Naming.start)) tree links l.fn.workers.items
      → Completes (linking g.L.Links g.L.Device.Duplex g.L.Clock.Clock (served_by g.N.Naming.start)) tree links (into_iter_items l.worker-iterator) l.ends.items;
}
