use Rattle.std.proofs.Common.{◌≡◌, ◌+◌, ◌++◌, drop}
use Rattle.nfs_tree.specs.Children.{listed_from}
use Rattle.nfs_tree.proofs.children.children_among.Given as goal

abbrev pub invariant-loop-node : goal.invariant-loop-node
invariant-loop-node l = record {
  counted : l.number ≡ 1 + l.node-index;
  so_far : l.children.items ++ listed_from l.number (drop l.node-index l.nodes) l.directory l.cookie ≡ listed_from 1 l.nodes l.directory l.cookie;
}
