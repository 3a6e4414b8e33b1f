use Rattle.nfs_core.proofs.RecallsLeft.{Recalls-begin}
use Rattle.nfs_core.proofs.laws.recalls_begin.Goals as goal

pub returns : goal.returns
returns c = Recalls-begin c.at_most_one_decision.ensures
