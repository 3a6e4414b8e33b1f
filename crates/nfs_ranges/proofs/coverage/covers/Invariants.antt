use Rattle.std.proofs.Common.{◌≡◌, ℕ, ◌≤◌, ◌<◌, ◌-◌, true}
use Rattle.std.specs.List.{list_any}
use Rattle.nfs_ranges.specs.Covering.{gives}
use Rattle.nfs_ranges.proofs.coverage.covers.Given as goal

-- the bytes of the range before this one are held
abbrev pub invariant-walk : goal.invariant-walk
invariant-walk l = record {
  low : l.range.first ≤ l.byte;
  high : l.byte ≤ l.range.last;
  before : (b : ℕ) → l.range.first ≤ b → b < l.byte → list_any (gives l.mode b) l.runs ≡ true;
}

abbrev pub decreases-walk : goal.decreases-walk
decreases-walk l = l.range.last - l.byte
