use Rattle.std.proofs.Common.{◌≡◌}
use Rattle.nfs_state.specs.Files.{files_in}
use Rattle.nfs_state.specs.State.{files_below}
use Rattle.nfs_state.proofs.stored_files.files_of.Given as goal

-- these are the files among the nodes visited so far
abbrev pub invariant-loop-node : goal.invariant-loop-node
invariant-loop-node l = record {
  files : files_in l.files.items ≡ files_below l.tree.nodes l.node;
}
