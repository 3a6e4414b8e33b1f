use Rattle.nfs_core.proofs.Journals.{Lawful-once}
use Rattle.nfs_core.proofs.laws.at_most_one_state.Goals as goal

pub returns : goal.returns
returns c = Lawful-once c.at_most_one_decision.ensures
