use Rattle.nfs_owners.specs.laws.Marks as marks
use Rattle.nfs_owners.proofs.client_laws.marks_keep_clients.Goals as goal

pub returns : goal.returns
returns c = marks.marks_keep_clients
