use Rattle.nfs_threads.proofs.Called.{none_is_lost}
use Rattle.nfs_threads.proofs.calling_laws.recalls_are_followed.Goals as goal

pub returns : goal.returns
returns g c = none_is_lost g.N.Naming.start c.nothing_is_lost.ensures c.nothing_is_overlooked.ensures
