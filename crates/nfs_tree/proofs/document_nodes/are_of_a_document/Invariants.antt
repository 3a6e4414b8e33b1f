use Rattle.std.proofs.Common.{◌≡◌, [], take, drop}
use Rattle.nfs_tree.specs.DocumentNodes.{each_can_follow}
use Rattle.nfs_tree.proofs.document_nodes.are_of_a_document.Given as goal

abbrev pub invariant-loop-place : goal.invariant-loop-place
invariant-loop-place l = each_can_follow (take l.place l.nodes) (drop l.place l.nodes) ≡ each_can_follow [] l.nodes
