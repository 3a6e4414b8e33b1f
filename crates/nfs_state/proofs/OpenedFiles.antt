-- The files of a tree when a server starts with it.
use Rattle.std.proofs.Common.{◌≡◌, ℕ, suc, ◌+◌, List, ◌++◌, refl, arith}
use Rattle.nfs_tree.specs.declared.node.Node.{Node}
use Rattle.nfs_tree.specs.Tree.{text_of}
use Rattle.nfs_state.specs.State.{files_below, initial_file}

-- the files below the next node: the file of this node, if it is one, comes last
pub files_below_next : (nodes : List Node) (node : ℕ) → files_below nodes (node + 1) ≡ files_below nodes node ++ initial_file node (text_of nodes node)
files_below_next nodes node = let next : node + 1 ≡ suc node = omega arith in rw next refl
