use Rattle.std.proofs.Common.{◌≡◌, drop}
use Rattle.std.specs.Prelude.{find}
use Rattle.nfs_ranges.specs.Questions.{stops}
use Rattle.nfs_ranges.proofs.stops.first_stop.Given as goal

-- what is found is among the remaining runs
abbrev pub invariant-loop-run : goal.invariant-loop-run
invariant-loop-run l = find (stops l.last l.asked) (drop l.run-index l.runs) ≡ find (stops l.last l.asked) l.runs
