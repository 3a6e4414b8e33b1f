use Rattle.nfs_core.proofs.Forgets.{Forgotten-are-as-new}
use Rattle.nfs_core.proofs.laws.forgotten_are_as_new.Goals as goal

pub returns : goal.returns
returns c = Forgotten-are-as-new
