use Rattle.std.proofs.Common.{◌≡◌, ◌++◌, ◌∙◌, List, [], ℕ, ap, arith, false, length, subst}
use Rattle.std.specs.Arc.{arc_slice_items}
use Rattle.std.specs.List.{concat}
use Rattle.std.specs.Option.{option_map_or}
use Rattle.std.specs.Str.{bytes_eq}
use Rattle.xdr.proofs.PartLists.{like_rest, unlike_first}
use Rattle.xdr.proofs.byte_parts.ByteParts.is_same.Goals as goal

pub returns-then-not-has_at : goal.returns-then-not-has_at
returns-then-not-has_at c =
    let first = c.as_slice-first.result.now in
    let list = option_map_or arc_slice_items c.self.inside.rest [] in
    let whole : first ++ concat list ≡ c.args.self.now = ap (λ (xs : List ℕ). xs ++ concat list) c.as_slice-first.ensures ∙ c.self.view_is in
    subst (λ (xs : List ℕ). false ≡ bytes_eq xs c.args.other.now) whole (unlike_first first (concat list) c.args.other.now c.if-not-has_at.ensures)

pub returns : goal.returns
returns c =
    let first = c.as_slice-first.result.now in
    let list = c.items_of.result.now in
    let whole : first ++ concat list ≡ c.args.self.now = (λ i. c.as_slice-first.ensures i ++ concat (c.items_of.ensures i)) ∙ c.self.view_is in
    let many : length (first ++ concat list) ≡ length c.args.other.now = omega (arith, ap length whole, c.len.ensures, c.len-2.ensures, c.if-len.false) in
    subst (λ (xs : List ℕ). c.has_each_at.result ≡ bytes_eq xs c.args.other.now) whole
    (like_rest c.has_each_at.result first (concat list) c.args.other.now many c.if-not-has_at.ensures c.has_each_at.ensures)
