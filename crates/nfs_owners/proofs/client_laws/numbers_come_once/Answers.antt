use Rattle.nfs_owners.proofs.SlotsApart as slots
use Rattle.nfs_owners.proofs.client_laws.numbers_come_once.Goals as goal

pub returns : goal.returns
returns c = slots.numbers_come_once
