use Rattle.std.proofs.Common.{◌+◌, List, ℕ, ap, arith, drop, length, length-append, subst, sym}
use Rattle.std.specs.List.{concat}
use Rattle.xdr.specs.Parts.{StandAt}
use Rattle.xdr.proofs.PartLists.{next_part, none_left, stand_both, stand_first, stand_none, stand_second}
use Rattle.xdr.proofs.byte_parts.ByteParts.has_each_at.Goals as goal

pub overflow_add-at : goal.overflow_add-at
overflow_add-at c =
    let parts = c.args.parts.now in
    let i = c.loop-part.part-index in
    let bytes = c.as_slice-bytes.result.now in
    let next = next_part parts i c.part-item.result bytes (omega arith) c.part-item.is c.as_slice-bytes.ensures in
    omega (arith, ap length next, length-append bytes (concat (drop (i + 1) parts)), c.loop-part.invariant.place, c.requires)

pub loop-part-preserved : goal.loop-part-preserved
loop-part-preserved c =
    let parts = c.args.parts.now in
    let i = c.loop-part.part-index in
    let at = c.loop-part.at in
    let bytes = c.as_slice-bytes.result.now in
    let more = concat (drop (i + 1) parts) in
    let whole = c.args.self.now in
    let next = next_part parts i c.part-item.result bytes (omega arith) c.part-item.is c.as_slice-bytes.ensures in
    record {
      place = omega (arith, ap length next, length-append bytes more, c.loop-part.invariant.place);
      all = λ rest. c.loop-part.invariant.all (subst (λ (xs : List ℕ). StandAt at xs whole) (sym next) (stand_both at bytes more whole c.if-not-has_at.ensures rest));
      rest = λ all. stand_second at bytes more whole (subst (λ (xs : List ℕ). StandAt at xs whole) next (c.loop-part.invariant.rest all));
    }

pub returns-then-not-has_at : goal.returns-then-not-has_at
returns-then-not-has_at c =
    let parts = c.args.parts.now in
    let i = c.loop-part.part-index in
    let at = c.loop-part.at in
    let bytes = c.as_slice-bytes.result.now in
    let more = concat (drop (i + 1) parts) in
    let whole = c.args.self.now in
    let next = next_part parts i c.part-item.result bytes (omega arith) c.part-item.is c.as_slice-bytes.ensures in
    λ all. c.if-not-has_at.ensures (stand_first at bytes more whole (subst (λ (xs : List ℕ). StandAt at xs whole) next (c.loop-part.invariant.rest all)))

pub returns : goal.returns
returns c =
    let at = c.loop-part.at in
    let none = none_left c.args.parts.now c.loop-part.part-index c.loop-part-test.false in
    c.loop-part.invariant.all (stand_none at (concat (drop c.loop-part.part-index c.args.parts.now)) c.args.self.now none)
