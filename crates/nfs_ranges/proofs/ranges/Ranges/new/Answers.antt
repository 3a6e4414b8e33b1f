use Rattle.std.proofs.Common.{sym, ap, subst, length, arith}
use Rattle.nfs_ranges.specs.Merged.{IsMerged}
use Rattle.nfs_ranges.proofs.ranges.Ranges.new.Goals as goal

pub invariant_of-result : goal.invariant_of-result
invariant_of-result c = (
  subst IsMerged (sym c.new.ensures.runs) tt,
  omega (arith, ap length c.new.ensures.runs),
  c.new.ensures.room,
)
