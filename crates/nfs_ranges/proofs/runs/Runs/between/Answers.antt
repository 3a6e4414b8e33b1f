use Rattle.std.proofs.Common.{arith}
use Rattle.nfs_ranges.specs.Merged.{in_order}
use Rattle.nfs_ranges.proofs.Ended.{ended_length}
use Rattle.nfs_ranges.proofs.runs.Runs.between.Goals as goal

pub returns-then-not-is_ended-3-clause-bound : goal.returns-then-not-is_ended-3-clause-bound
returns-then-not-is_ended-3-clause-bound c =
    omega (arith, c.if-not-is_ended-2.ensures.some, ended_length c.args.byte (in_order c.args.self.now))

pub returns-clause-high : goal.returns-clause-high
returns-clause-high c = omega (arith, c.len.ensures, ended_length c.args.byte (in_order c.args.self.now))
