use Rattle.nfs_threads.specs.Worker.{linking}
use Rattle.nfs_threads.proofs.Kept.{are_kept}
use Rattle.nfs_threads.proofs.worker_laws.workers_keep_receipts.Goals as goal
use Rattle.nfs_server.specs.Serves.{served_by}

pub returns : goal.returns
returns g c tree words count links ends fresh are =
    are_kept (linking g.L.Links g.L.Device.Duplex g.L.Clock.Clock (served_by g.N.Naming.start)) tree words count links ends fresh are
