use Rattle.nfs_tree.proofs.Paths.{paths_law}
use Rattle.nfs_tree.proofs.path.paths_are_joined_names.Goals as goal

pub returns : goal.returns
returns c = paths_law
