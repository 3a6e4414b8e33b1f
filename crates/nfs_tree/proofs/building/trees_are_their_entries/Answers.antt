use Rattle.nfs_tree.proofs.Entries.{entries_law}
use Rattle.nfs_tree.proofs.building.trees_are_their_entries.Goals as goal

pub returns : goal.returns
returns c = entries_law
