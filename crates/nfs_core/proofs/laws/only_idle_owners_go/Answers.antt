use Rattle.nfs_core.proofs.Forgets.{Only-idle-owners-go}
use Rattle.nfs_core.proofs.laws.only_idle_owners_go.Goals as goal

pub returns : goal.returns
returns c = Only-idle-owners-go
