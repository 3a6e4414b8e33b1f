use Rattle.std.proofs.Common.{◌≡◌, ◌+◌, ◌-◌, List, ℕ, arith, drop, length, subst, sym}
use Rattle.std.specs.List.{concat}
use Rattle.xdr.specs.Parts.{StandAt}
use Rattle.xdr.proofs.PartLists.{found_before, found_behind, next_part, not_found}
use Rattle.xdr.proofs.byte_parts.have_at.Goals as goal

pub loop-part-preserved : goal.loop-part-preserved
loop-part-preserved c =
    let parts = c.args.parts.now in
    let i = c.loop-part.part-index in
    let part = c.as_slice-part.result.now in
    let more = concat (drop (i + 1) parts) in
    let next = next_part parts i c.part-item.result part (omega arith) c.part-item.is c.as_slice-part.ensures in
    let before : c.saturating_sub-before.result ≡ c.loop-part.before - length part = omega (arith, c.saturating_sub-before.ensures) in
    let found = c.in-Some.ensures.left in
    record {
      all = λ rest. c.loop-part.invariant.all (subst (λ (xs : List ℕ). StandAt c.loop-part.before c.loop-part.left.now xs) (sym next)
          (found_before c.loop-part.before c.loop-part.left.now c.in-Some.rest.now part more found (subst (λ n. StandAt n c.in-Some.rest.now more) before rest)));
      rest = λ all. subst (λ n. StandAt n c.in-Some.rest.now more) (sym before)
          (found_behind c.loop-part.before c.loop-part.left.now c.in-Some.rest.now part more found
          (subst (λ (xs : List ℕ). StandAt c.loop-part.before c.loop-part.left.now xs) next (c.loop-part.invariant.rest all)));
    }

pub returns-in-None : goal.returns-in-None
returns-in-None c =
    let parts = c.args.parts.now in
    let i = c.loop-part.part-index in
    let part = c.as_slice-part.result.now in
    let next = next_part parts i c.part-item.result part (omega arith) c.part-item.is c.as_slice-part.ensures in
    λ all. not_found c.loop-part.before c.loop-part.left.now part (concat (drop (i + 1) parts)) c.in-None.ensures.none
    (subst (λ (xs : List ℕ). StandAt c.loop-part.before c.loop-part.left.now xs) next (c.loop-part.invariant.rest all))
