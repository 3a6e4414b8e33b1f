use Rattle.nfs_core.proofs.RecallsLeft.{Others-recall-nothing}
use Rattle.nfs_core.proofs.laws.others_recall_nothing.Goals as goal

pub returns : goal.returns
returns c = Others-recall-nothing
