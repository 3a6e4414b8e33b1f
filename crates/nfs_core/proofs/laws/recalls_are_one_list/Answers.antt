use Rattle.nfs_core.proofs.RecallsLeft.{Recalls-once}
use Rattle.nfs_core.proofs.laws.recalls_are_one_list.Goals as goal

pub returns : goal.returns
returns c = Recalls-once c.at_most_one_decision.ensures
