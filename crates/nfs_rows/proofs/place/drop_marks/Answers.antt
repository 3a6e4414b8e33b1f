use Rattle.std.proofs.Common.{◌≡◌, ◌∙◌, ◌∷◌, ◌++◌, ◌<◌, ◌-◌, [], Some, length, slice_get, List, rules, not, take, ap, arith, subst, sym, vec_len}
use Rattle.std.proofs.lemmas.Fn.{filter_same}
use Rattle.nfs_rows.specs.Places.{EndsKept, NumbersRise, kept}
use Rattle.nfs_rows.specs.declared.place.Place.{Place}
use Rattle.nfs_rows.proofs.Each.{passes_filter, so_front}
use Rattle.nfs_rows.proofs.Marks.{ends_all, ends_push, kept_kept, kept_pop, last_is, rise_kept}
use Rattle.nfs_rows.proofs.place.drop_marks.Goals as goal

pub returns-then-len-rows-clause-kept : goal.returns-then-len-rows-clause-kept
returns-then-len-rows-clause-kept c =
    let same = filter_same _ (λ (p : Place). not p.gone) _ (λ x b f' k. search rules) _ _ c.retain.ensures.filtered in
    ap kept same ∙ kept_kept c.args.places.now.items

pub returns-then-len-rows-clause-rise : goal.returns-then-len-rows-clause-rise
returns-then-len-rows-clause-rise c =
    let same = filter_same _ (λ (p : Place). not p.gone) _ (λ x b f' k. search rules) _ _ c.retain.ensures.filtered in
    subst NumbersRise (sym same) (rise_kept c.args.places.now.items c.requires.rise)

pub returns-then-len-rows-clause-ends : goal.returns-then-len-rows-clause-ends
returns-then-len-rows-clause-ends c =
    let same = filter_same _ (λ (p : Place). not p.gone) _ (λ x b f' k. search rules) _ _ c.retain.ensures.filtered in
    subst EndsKept (sym same) (ends_all (kept c.args.places.now.items) (passes_filter (λ p. not p.gone) c.args.places.now.items))

pub returns-then-len-rows-clause-few : goal.returns-then-len-rows-clause-few
returns-then-len-rows-clause-few c =
    let same = filter_same _ (λ (p : Place). not p.gone) _ (λ x b f' k. search rules) _ _ c.retain.ensures.filtered in
    omega (arith, ap length same, c.retain.new.self.ok.0, c.requires.rows)

pub loop-place-preserved : goal.loop-place-preserved
loop-place-preserved c =
    let ps = c.loop-place.places.items in
    let new = c.pop.new.self.items in
    let p = c.in-Some.place.now in
    let inv = c.loop-place.invariant in
    let long : length ps ≡ vec_len c.loop-place.places = omega (arith, c.deref.ensures.len, ap length c.deref.ensures.value) in
    let is : ps ≡ new ++ p ∷ [] =
    last_is ps p (subst (λ (xs : List Place). Some p ≡ slice_get xs (length xs - 1)) c.deref.ensures.value c.in-Some.ensures.value)
    ∙ ap (λ n. take (n - 1) ps ++ p ∷ []) long ∙ ap (λ (front : List Place). front ++ p ∷ []) (sym c.pop.ensures.rest) in
    record {
      kept = sym (ap kept is ∙ kept_pop new p c.if-not-place.false) ∙ inv.kept;
      rise = so_front (λ p q. p.number < q.number) new (p ∷ []) (subst NumbersRise is inv.rise);
      length = omega (arith, c.pop.ensures.len, inv.length);
      capacity = c.pop.ensures.capacity ∙ inv.capacity;
    }

pub returns-then-not-place-clause-ends : goal.returns-then-not-place-clause-ends
returns-then-not-place-clause-ends c =
    let ps = c.loop-place.places.items in
    let p = c.in-Some.place.now in
    subst EndsKept (sym (last_is ps p (subst (λ (xs : List Place). Some p ≡ slice_get xs (length xs - 1)) c.deref.ensures.value c.in-Some.ensures.value))) (ends_push (take (length ps - 1) ps) p c.if-not-place.true)
