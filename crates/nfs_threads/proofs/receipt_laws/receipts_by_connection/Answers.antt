use Rattle.nfs_threads.specs.Worker.{linking}
use Rattle.nfs_threads.proofs.Parts.{has_parts}
use Rattle.nfs_threads.proofs.receipt_laws.receipts_by_connection.Goals as goal
use Rattle.nfs_server.specs.Serves.{served_by}

pub returns : goal.returns
returns g c tree links seat end is =
    has_parts (linking g.L.Links g.L.Device.Duplex g.L.Clock.Clock (served_by g.N.Naming.start)) tree links seat end is
