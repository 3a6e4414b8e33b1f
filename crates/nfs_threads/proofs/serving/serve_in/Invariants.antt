use Rattle.std.proofs.Common.{◌≡◌, ◌+◌, ◌≤◌, List, ◌++◌, length, vec_capacity, vec_len}
use Rattle.std.specs.Vec.Iter.{into_iter_items, into_iter_len}
use Rattle.nfs_threads.specs.WorkerThread.{AreWorkers}
use Rattle.nfs_threads.specs.Worker.{AreUnused, linking, seats_of}
use Rattle.nfs_threads.proofs.serving.serve_in.Given as goal
use Rattle.nfs_server.specs.Serves.{served_by}

-- whatever are workers of the links that are left are, after those so far, workers of all links
abbrev pub invariant-loop-link : goal.invariant-loop-link
invariant-loop-link g l = record {
  can : (goal.iterator-loop-link g).can_next l.link-iterator;
  finite : (goal.iterator-loop-link g).is_finite l.link-iterator;
  flags : length l.flags ≡ into_iter_len l.link-iterator;
  tree : g.N.Naming.start.nodes ≡ l.common.tree.now.nodes;
  unused : AreUnused (seats_of (into_iter_items l.link-iterator));
  count : length (into_iter_items l.link-iterator) ≡ into_iter_len l.link-iterator;
  all : vec_len l.workers + into_iter_len l.link-iterator ≡ vec_len l.fn.links;
  room : vec_len l.workers + into_iter_len l.link-iterator ≤ vec_capacity l.workers;
  completes : (more : List _)
      → AreWorkers (linking g.L.Links g.L.Device.Duplex g.L.Clock.Clock (served_by g.N.Naming.start)) l.common.tree.now (into_iter_items l.link-iterator) more
      → AreWorkers (linking g.L.Links g.L.Device.Duplex g.L.Clock.Clock (served_by g.N.Naming.start)) l.common.tree.now l.fn.links.items (l.workers.items ++ more);
}
