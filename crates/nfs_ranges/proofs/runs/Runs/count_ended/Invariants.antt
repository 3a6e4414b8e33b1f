use Rattle.std.proofs.Common.{◌-◌, ◌≤◌, length}
use Rattle.nfs_ranges.specs.Merged.{ended, in_order}
use Rattle.nfs_ranges.proofs.runs.Runs.count_ended.Given as goal

-- the number is between the two
abbrev pub invariant-halving : goal.invariant-halving
invariant-halving l = record {
  low : l.low ≤ ended l.byte (in_order l.self);
  high : ended l.byte (in_order l.self) ≤ l.high;
  bound : l.high ≤ length (in_order l.self);
}

abbrev pub decreases-halving : goal.decreases-halving
decreases-halving l = l.high - l.low
