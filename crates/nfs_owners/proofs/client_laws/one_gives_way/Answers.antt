use Rattle.nfs_owners.proofs.GivingWay as giving
use Rattle.nfs_owners.proofs.client_laws.one_gives_way.Goals as goal

pub returns : goal.returns
returns c = giving.one_gives_way
