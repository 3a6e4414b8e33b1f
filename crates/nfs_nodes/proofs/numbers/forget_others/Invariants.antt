use Rattle.std.proofs.Common.{◌≤◌, map}
use Rattle.nfs_nodes.specs.Numbers.{StandFrom}
use Rattle.nfs_nodes.proofs.numbers.forget_others.Given as goal

-- all are found, and there is no less room
abbrev pub invariant-loop-passed : goal.invariant-loop-passed
invariant-loop-passed g l = record {
  stand : StandFrom g.F.Numbered.number_of l.nodes 0 (map g.F.Numbered.states l.files);
  grows : l.fn.nodes.room ≤ l.nodes.room;
}
