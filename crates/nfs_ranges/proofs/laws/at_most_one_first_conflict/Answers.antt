use Rattle.nfs_ranges.proofs.Unique.{one_first_conflict}
use Rattle.nfs_ranges.proofs.laws.at_most_one_first_conflict.Goals as goal

pub returns : goal.returns
returns c = one_first_conflict
