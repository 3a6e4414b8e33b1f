use Rattle.nfs_ranges.proofs.Unique.{one_run}
use Rattle.nfs_ranges.proofs.laws.at_most_one_run.Goals as goal

pub returns : goal.returns
returns c = one_run
