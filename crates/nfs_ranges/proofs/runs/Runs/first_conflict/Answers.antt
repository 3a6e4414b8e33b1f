use Rattle.std.proofs.Common.{ℕ, Option, sym, ◌∙◌, subst, arith}
use Rattle.nfs_ranges.specs.Merged.{in_order}
use Rattle.nfs_ranges.specs.Modes.{modes_of}
use Rattle.nfs_ranges.specs.Questions.{IsFirstConflict}
use Rattle.nfs_ranges.proofs.Conflicts.{conflict_beyond, first_at, no_conflict}
use Rattle.nfs_ranges.proofs.Ended.{ended_length}
use Rattle.nfs_ranges.proofs.runs.Runs.first_conflict.Goals as goal

pub first_stop-requires : goal.first_stop-requires
first_stop-requires c =
    omega (arith, c.count_ended.ensures, ended_length c.args.range.first (in_order c.args.self.now))

pub returns-in_err-run : goal.returns-in_err-run
returns-in_err-run c =
    subst (λ (answer : Option ℕ). IsFirstConflict (modes_of (in_order c.args.self.now)) c.args.range c.args.asked answer)
    (sym c.from_residual.ensures)
    (no_conflict (in_order c.args.self.now) c.args.range c.args.asked c.count_ended.result c.requires.merged
    c.count_ended.ensures (sym c.first_stop.ensures ∙ c.in_err-run.was))

pub returns-then-range-run : goal.returns-then-range-run
returns-then-range-run c =
    conflict_beyond (in_order c.args.self.now) c.args.range c.args.asked c.count_ended.result c.in_ok-run.run'
    c.requires.merged c.count_ended.ensures (sym c.first_stop.ensures ∙ c.in_ok-run.was) c.if-range-run.true

pub returns-else-range-run : goal.returns-else-range-run
returns-else-range-run c =
    first_at (in_order c.args.self.now) c.args.range c.args.asked c.count_ended.result c.in_ok-run.run' c.max.result
    c.requires.merged c.count_ended.ensures (sym c.first_stop.ensures ∙ c.in_ok-run.was) c.if-range-run.false
    c.max.ensures
