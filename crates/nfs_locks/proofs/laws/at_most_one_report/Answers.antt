use Rattle.nfs_locks.proofs.Unique.{at_most_one}
use Rattle.nfs_locks.proofs.laws.at_most_one_report.Goals as goal

pub returns : goal.returns
returns c = λ locks owner range mode a b. at_most_one locks owner range mode c.at_most_one_run.ensures a b
