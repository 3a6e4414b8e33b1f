use Rattle.std.proofs.Common.{◌≡◌, ◌-◌}
use Rattle.nfs_tree.specs.declared.path.TheConstants.{PATH_LIMIT}
use Rattle.nfs_tree.specs.DocumentNodes.{steps_up}
use Rattle.nfs_tree.proofs.document_nodes.is_near_root.Given as goal

abbrev pub invariant-loop : goal.invariant-loop
invariant-loop l = steps_up l.nodes (PATH_LIMIT - l.counter) l.at ≡ steps_up l.nodes (PATH_LIMIT - 1) l.directory
