use Rattle.nfs_rules.proofs.Judging.{judged_as_sequenced}
use Rattle.nfs_rules.proofs.laws.judged_as_sequenced.Goals as goal

pub returns : goal.returns
returns c = judged_as_sequenced
