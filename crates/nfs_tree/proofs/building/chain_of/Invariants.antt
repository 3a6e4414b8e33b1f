use Rattle.std.proofs.Common.{◌≡◌, ◌+◌, ◌++◌, drop}
use Rattle.nfs_tree.specs.Building.{chain}
use Rattle.nfs_tree.proofs.building.chain_of.Given as goal

abbrev pub invariant-loop-place : goal.invariant-loop-place
invariant-loop-place l = record {
  counted : l.number ≡ l.initial.number + l.place;
  join_names : l.nodes.items ++ chain l.parent l.number (drop l.place l.names) l.kind ≡ chain l.initial.parent l.initial.number l.names l.kind;
}
