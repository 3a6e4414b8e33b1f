use Rattle.std.proofs.Common.{◌≡◌, drop}
use Rattle.nfs_tree.specs.Building.{way}
use Rattle.nfs_tree.proofs.tree.Tree.way.Given as goal

abbrev pub invariant-loop-found : goal.invariant-loop-found
invariant-loop-found l = way l.self.nodes l.end (drop l.found l.names) ≡ way l.self.nodes 0 l.names
