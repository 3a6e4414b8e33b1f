use Rattle.std.proofs.Common.{◌≡◌, ◌∙◌, ap, drop, sym, take, true}
use Rattle.std.proofs.lemmas.List.{drop_min}
use Rattle.std.proofs.lemmas.Slice.Eq.{bytes_eq-Decides}
use Rattle.xdr.proofs.PartLists.{left_is, none_is}
use Rattle.xdr.proofs.byte_parts.left_after.Goals as goal

pub returns-then-eq-clause-left : goal.returns-then-eq-clause-left
returns-then-eq-clause-left c =
    let part = c.args.part.now in
    let rest = c.split_at.result.1.now in
    let here = c.split_at-2.result.0.now in
    let first = c.split_at-3.result.0.now in
    left_is c.args.before c.args.bytes.now part rest here first c.split_at-3.result.1.now
    (c.split_at.ensures.back ∙ ap (λ n. drop n part) c.min.ensures ∙ drop_min c.args.before part)
    (c.split_at-2.ensures.front ∙ ap (λ n. take n rest) c.min-2.ensures)
    c.split_at-3.ensures.by_index.0
    ((bytes_eq-Decides first here).0 (sym c.eq.ensures ∙ c.if-eq.true))

pub returns-else-eq-clause-none : goal.returns-else-eq-clause-none
returns-else-eq-clause-none c =
    let part = c.args.part.now in
    let rest = c.split_at.result.1.now in
    let here = c.split_at-2.result.0.now in
    let first = c.split_at-3.result.0.now in
    λ next is. none_is c.args.before c.args.bytes.now part rest here first next
    (c.split_at.ensures.back ∙ ap (λ n. drop n part) c.min.ensures ∙ drop_min c.args.before part)
    (c.split_at-2.ensures.front ∙ ap (λ n. take n rest) c.min-2.ensures)
    c.split_at-3.ensures.front
    (λ same. let clash : true ≡ c.eq.result = sym ((bytes_eq-Decides first here).1 same) ∙ sym c.eq.ensures in absurd (cc (clash, c.if-eq.false)))
    is
