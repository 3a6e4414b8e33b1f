use Rattle.std.proofs.Common.{◌≡◌, drop}
use Rattle.nfs_tree.specs.Building.{add_entries, tree_of}
use Rattle.nfs_tree.proofs.tree.Tree.from_toml.Given as goal

abbrev pub invariant-loop-entry : goal.invariant-loop-entry
invariant-loop-entry l = add_entries l.tree (drop l.entry-index l.entry-items) ≡ tree_of l.text
