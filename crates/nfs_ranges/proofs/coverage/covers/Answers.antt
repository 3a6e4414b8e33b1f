use Rattle.std.proofs.Common.{◌≡◌, ◌≤◌, Some, None, arith, find, refl, sym}
use Rattle.nfs_ranges.specs.Covering.{gives}
use Rattle.nfs_ranges.proofs.Covered.{given_here, given_more, uncovered}
use Rattle.nfs_ranges.proofs.coverage.covers.Goals as goal

pub returns-in_default : goal.returns-in_default
returns-in_default c = (
  λ is. absurd cc,
  λ covers. absurd (uncovered c.args.mode c.args.range c.walk.byte c.args.runs.now (sym c.in_default.ensures) c.walk.invariant.low c.walk.invariant.high covers),
)

pub returns-then-range-run : goal.returns-then-range-run
returns-then-range-run c = (
  λ is b within.
      given_more c.args.mode c.args.range c.walk.byte c.args.runs.now c.in-Some.run' (sym c.in-Some.ensures) c.walk.invariant.before b within.0
      (omega (arith, within.1, c.if-range-run.true)),
  λ covers. refl,
)

pub walk-smaller : goal.walk-smaller
walk-smaller c =
    omega (arith, given_here c.args.mode c.walk.byte c.args.runs.now c.in-Some.run' (sym c.in-Some.ensures), c.if-range-run.false, c.walk.invariant.high)

pub walk-preserved : goal.walk-preserved
walk-preserved c =
    let here = given_here c.args.mode c.walk.byte c.args.runs.now c.in-Some.run' (sym c.in-Some.ensures) in
    record {
      low = omega (arith, here, c.walk.invariant.low);
      high = omega (arith, c.if-range-run.false);
      before = λ b low below. given_more c.args.mode c.args.range c.walk.byte c.args.runs.now c.in-Some.run' (sym c.in-Some.ensures) c.walk.invariant.before b low (omega (arith, below));
    }
