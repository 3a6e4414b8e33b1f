use Rattle.nfs_core.proofs.Forgets.{Openers-stay}
use Rattle.nfs_core.proofs.laws.openers_stay.Goals as goal

pub returns : goal.returns
returns c = Openers-stay
