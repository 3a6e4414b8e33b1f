use Rattle.nfs_threads.specs.Worker.{linking}
use Rattle.rows.proofs.ManyLinks.{served}
use Rattle.rows.proofs.workers.Workers.serve.Goals as goal
use Rattle.nfs_server.specs.Serves.{served_by}

pub returns : goal.returns
returns g c =
    served (linking g.L.Links g.L.Device.Duplex g.L.Clock.Clock (served_by g.N.Naming.start)) c.args.self.now.tree.now c.args.links.items c.in-Ok.ends.items c.receipts_by_connection.ensures c.in-Ok.ensures.ends
