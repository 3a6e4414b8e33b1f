use Rattle.nfs_owners.proofs.SlotsApart as slots
use Rattle.nfs_owners.proofs.client_laws.slots_are_apart.Goals as goal

pub returns : goal.returns
returns c = slots.slots_are_apart
