use Rattle.nfs_ranges.proofs.Unique.{one_range}
use Rattle.nfs_ranges.proofs.laws.at_most_one_range.Goals as goal

pub returns : goal.returns
returns c = one_range
