use Rattle.nfs_threads.specs.Worker.{linking, stand}
use Rattle.nfs_threads.proofs.Each.{Completes}
use Rattle.nfs_threads.proofs.worker.serve_each.Given as goal
use Rattle.nfs_server.specs.Serves.{served_by}

abbrev pub invariant-loop : goal.invariant-loop
invariant-loop g l =
    Completes (linking g.L.Links g.L.Device.Duplex g.L.Clock.Clock (served_by g.N.Naming.start))
    l.common.tree.now (stand l.fn.links l.fn.desk) l.connections.items (stand l.links l.desk)
