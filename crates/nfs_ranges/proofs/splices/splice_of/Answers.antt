use Rattle.std.proofs.Common.{◌+◌, ◌∙◌, ap, subst, if◌then◌else◌, Option, arith}
use Rattle.std.specs.Prelude.{slice_get}
use Rattle.nfs_ranges.specs.Merged.{ended, in_order}
use Rattle.nfs_ranges.specs.Splices.{IsRestBefore, IsRestBehind, IsSpliceOf}
use Rattle.nfs_ranges.specs.declared.piece.Piece.{Piece}
use Rattle.nfs_ranges.proofs.Spliced.{is_splice, next_ends}
use Rattle.nfs_ranges.proofs.splices.splice_of.Goals as goal

pub rest_behind-right-requires : goal.rest_behind-right-requires
rest_behind-right-requires c =
    next_ends c.last_with-last.result (in_order c.args.runs.now) c.count_until-next.result c.get-2.result
    c.requires.merged c.count_until-next.ensures c.get-2.ensures

-- what stands after the splice
told : (c : goal.After-one_if) → IsSpliceOf c.args.change (in_order c.args.runs.now) (record {
  start = c.count_ended-start.result;
  left = c.rest_before-left.result;
  run = c.run_over-run.result;
  right = c.rest_behind-right.result;
  stop = c.count_until-next.result + c.one_if.result;
})
told c =
    let ps = in_order c.args.runs.now in
    let first = c.first_with-first.result in
    let last = c.last_with-last.result in
    is_splice c.args.change ps first last c.rest_before-left.result c.run_over-run.result c.rest_behind-right.result
    c.requires.merged c.first_with-first.ensures c.last_with-last.ensures (omega arith)
    (subst (λ (next : Option Piece). IsRestBefore first next c.rest_before-left.result)
    (c.get.ensures ∙ ap (slice_get ps) c.count_ended-start.ensures) c.rest_before-left.ensures)
    (subst (λ (next : Option Piece). IsRestBehind last next c.rest_behind-right.result)
    (c.get-2.ensures ∙ ap (slice_get ps) c.count_until-next.ensures) c.rest_behind-right.ensures)
    c.run_over-run.ensures c.count_ended-start.result (c.count_until-next.result + c.one_if.result)
    c.count_ended-start.ensures
    (ap (λ n. n + c.one_if.result) c.count_until-next.ensures
    ∙ ap (λ n. ended (last + 1) ps + n)
    (c.one_if.ensures ∙ ap (λ t. if t then 1 else 0) c.is_some.ensures))

pub overflow_add-stop : goal.overflow_add-stop
overflow_add-stop c = omega (arith, (told c).1, c.requires.few)

pub returns : goal.returns
returns c = told c
