use Rattle.std.proofs.Common.{◌≡◌, ◌-◌, ◌++◌, ◌∙◌, List, [], MatchBool, ℕ, ap, arith, length, subst, sym}
use Rattle.std.specs.Arc.{arc_slice_items}
use Rattle.std.specs.List.{concat}
use Rattle.std.specs.Option.{option_map_or}
use Rattle.xdr.specs.Parts.{StandAt}
use Rattle.xdr.proofs.PartLists.{like_behind, not_found}
use Rattle.xdr.proofs.byte_parts.ByteParts.has_at.Goals as goal

pub returns-in-Some : goal.returns-in-Some
returns-in-Some c =
    let first = c.as_slice-first.result.now in
    let list = c.items_of.result.now in
    let bytes = c.args.bytes.now in
    let whole : first ++ concat list ≡ c.args.self.now = (λ i. c.as_slice-first.ensures i ++ concat (c.items_of.ensures i)) ∙ c.self.view_is in
    let after : c.saturating_sub.result ≡ c.args.from - length first = omega (arith, c.saturating_sub.ensures) in
    subst (λ (xs : List ℕ). MatchBool c.have_at.result (StandAt c.args.from bytes xs) (StandAt c.args.from bytes xs → ⊥)) whole
    (like_behind c.have_at.result c.args.from c.saturating_sub.result bytes c.in-Some.left.now first (concat list) c.in-Some.ensures.left after c.have_at.ensures)

pub returns-in-None : goal.returns-in-None
returns-in-None c =
    let first = c.as_slice-first.result.now in
    let list = option_map_or arc_slice_items c.self.inside.rest [] in
    let bytes = c.args.bytes.now in
    let whole : first ++ concat list ≡ c.args.self.now = ap (λ (xs : List ℕ). xs ++ concat list) c.as_slice-first.ensures ∙ c.self.view_is in
    λ all. not_found c.args.from bytes first (concat list) c.in-None.ensures.none (subst (λ (xs : List ℕ). StandAt c.args.from bytes xs) (sym whole) all)
