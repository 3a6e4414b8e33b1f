use Rattle.nfs_core.proofs.Journals.{Step-once, Step-unique}
use Rattle.nfs_core.proofs.laws.at_most_one_step.Goals as goal

pub returns : goal.returns
returns c = record { calls = Step-unique c.at_most_one_decision.ensures; entries = Step-once c.at_most_one_decision.ensures }
