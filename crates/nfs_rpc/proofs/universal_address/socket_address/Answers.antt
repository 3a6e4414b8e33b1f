use Rattle.nfs_rpc.proofs.Addresses.{socket_stands}
use Rattle.nfs_rpc.proofs.universal_address.socket_address.Goals as goal

pub returns : goal.returns
returns c = socket_stands c.args.address.now c.socket_from.result c.socket_from.ensures
