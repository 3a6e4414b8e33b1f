use Rattle.std.proofs.Common.{◌≡◌, drop}
use Rattle.std.specs.Prelude.{find}
use Rattle.nfs_ranges.specs.Covering.{gives}
use Rattle.nfs_ranges.proofs.coverage.run_with.Given as goal

-- what is found is among the remaining runs
abbrev pub invariant-loop-run : goal.invariant-loop-run
invariant-loop-run l = find (gives l.mode l.byte) (drop l.run-index l.runs) ≡ find (gives l.mode l.byte) l.runs
