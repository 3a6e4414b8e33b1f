use Rattle.nfs_owners.proofs.GivingWay as giving
use Rattle.nfs_owners.proofs.client_laws.others_stay.Goals as goal

pub returns : goal.returns
returns c = giving.others_stay
