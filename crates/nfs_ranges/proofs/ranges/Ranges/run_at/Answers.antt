use Rattle.std.proofs.Common.{Option, Some, sym, ◌∙◌, ap, subst, arith}
use Rattle.nfs_ranges.specs.Merged.{in_order}
use Rattle.nfs_ranges.specs.Questions.{IsRunAt}
use Rattle.nfs_ranges.specs.RoomyRanges.{RoomyRanges, modes_in}
use Rattle.nfs_ranges.specs.declared.mode.Mode.{Mode}
use Rattle.nfs_ranges.specs.declared.range.Range.{Range}
use Rattle.nfs_ranges.proofs.Found.{found_has, found_mode, none_mode, run_is}
use Rattle.nfs_ranges.proofs.ranges.Ranges.run_at.Goals as goal

pub returns-in_err-run : goal.returns-in_err-run
returns-in_err-run c =
    subst (λ (answer : Option (Range × Mode)). IsRunAt (modes_in c.args.self.now) c.args.byte answer)
    (sym c.from_residual.ensures)
    (ap (λ held. modes_in held c.args.byte) (sym c.self.view_is)
    ∙ none_mode c.args.byte (in_order c.self.inside.runs) (sym c.find.ensures ∙ c.in_err-run.was))

pub returns-in_err-run-2 : goal.returns-in_err-run-2
returns-in_err-run-2 c =
    let inside = found_has c.args.byte (in_order c.self.inside.runs) c.in_ok-run.run' (sym c.find.ensures ∙ c.in_ok-run.was) in
    subst (λ (answer : Option (Range × Mode)). IsRunAt (modes_in c.args.self.now) c.args.byte answer)
    (sym c.from_residual-in_err-run-2.ensures)
    (ap (λ held. modes_in held c.args.byte) (sym c.self.view_is)
    ∙ found_mode c.args.byte (in_order c.self.inside.runs) c.in_ok-run.run' c.self.invariant.0
    (sym c.find.ensures ∙ c.in_ok-run.was) c.args.byte inside.0 inside.1
    ∙ c.in_err-run-2.was)

pub returns : goal.returns
returns c =
    subst (λ (held : RoomyRanges). IsRunAt (modes_in held) c.args.byte (Some (c.in_ok-run.run'.range, c.in_ok-run-2.field-0)))
    c.self.view_is
    (run_is c.args.byte (in_order c.self.inside.runs) c.in_ok-run.run' c.in_ok-run-2.field-0 c.self.invariant.0
    (sym c.find.ensures ∙ c.in_ok-run.was) c.in_ok-run-2.was (omega arith))
