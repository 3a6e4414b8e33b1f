use Rattle.nfs_core.proofs.RecallsLeft.{Recalls-follow}
use Rattle.nfs_core.proofs.laws.recalls_follow.Goals as goal

pub returns : goal.returns
returns c = Recalls-follow c.at_most_one_decision.ensures
