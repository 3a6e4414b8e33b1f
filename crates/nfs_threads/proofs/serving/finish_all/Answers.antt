use Rattle.std.proofs.Common.{List, length, rules, arith, ap, subst}
use Rattle.std.specs.Vec.Iter.{into_iter_items}
use Rattle.nfs_threads.specs.WorkerThread.{AreWorkers}
use Rattle.nfs_threads.specs.Worker.{linking}
use Rattle.nfs_threads.proofs.Workers.{all_done, one_more_done}
use Rattle.nfs_threads.proofs.serving.finish_all.Goals as goal
use Rattle.nfs_server.specs.Serves.{served_by}

pub loop-worker-preserved : goal.loop-worker-preserved
loop-worker-preserved g c =
    let e = (linking g.L.Links g.L.Device.Duplex g.L.Clock.Clock (served_by g.N.Naming.start)) in
    let steps = c.in-Some.ensures.steps in record {
      can = tt;
      finite = tt;
      count = omega (arith, c.loop-worker.invariant.count, ap (λ (l : List _). length l) steps.0, steps.1);
      room = search rules;
      completes = λ tree links are.
          let so_far = c.loop-worker.invariant.completes tree links are in
          rw c.push_reserved.ensures.items (one_more_done e tree links so_far.0 c.in-Some.worker (into_iter_items c.next.new.self) c.loop-worker.ends.items c.finish.result
          (subst (λ w. AreWorkers e tree so_far.0 w) steps.0 so_far.1) so_far.2 (c.finish.ensures tree));
    }

pub returns : goal.returns
returns g c tree links are =
    all_done (linking g.L.Links g.L.Device.Duplex g.L.Clock.Clock (served_by g.N.Naming.start)) tree
    links (into_iter_items c.loop-worker.worker-iterator) c.loop-worker.ends.items (c.loop-worker.invariant.completes tree links are) (omega (arith, c.loop-worker.invariant.count, c.in-None.ensures.steps.0))
