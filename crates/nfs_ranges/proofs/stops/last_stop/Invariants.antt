use Rattle.std.proofs.Common.{◌≡◌, ◌≤◌, reverse, take}
use Rattle.std.specs.Prelude.{find}
use Rattle.nfs_ranges.specs.Questions.{stops}
use Rattle.nfs_ranges.proofs.stops.last_stop.Given as goal

-- what is found is among the first that are left
abbrev pub invariant-walk : goal.invariant-walk
invariant-walk l = record {
  bound : l.left ≤ l.count;
  found : find (stops l.last l.asked) (reverse (take l.left l.runs))
      ≡ find (stops l.last l.asked) (reverse (take l.count l.runs));
}

abbrev pub decreases-walk : goal.decreases-walk
decreases-walk l = l.left
