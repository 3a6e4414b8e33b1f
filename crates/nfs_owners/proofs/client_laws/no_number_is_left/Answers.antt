use Rattle.nfs_owners.proofs.SlotsApart as slots
use Rattle.nfs_owners.proofs.client_laws.no_number_is_left.Goals as goal

pub returns : goal.returns
returns c = slots.no_number_is_left
