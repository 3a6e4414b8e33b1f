use Rattle.nfs_locks.proofs.Compatible.{beginning, changing, removing}
use Rattle.nfs_locks.proofs.laws.locks_stay_compatible.Goals as goal

pub returns-clause-begin : goal.returns-clause-begin
returns-clause-begin c = beginning

pub returns-clause-change : goal.returns-clause-change
returns-clause-change c = changing

pub returns-clause-removal : goal.returns-clause-removal
returns-clause-removal c = removing
