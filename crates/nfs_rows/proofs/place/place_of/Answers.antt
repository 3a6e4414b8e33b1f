use Rattle.std.proofs.Common.{arith, ap, ◌∙◌, ◌≡◌, ℕ, ◌<◌, List, length, get_or, sym, true, false}
use Rattle.nfs_rows.specs.declared.place.Place.{Place}
use Rattle.nfs_rows.proofs.Each.{any_default}
use Rattle.nfs_rows.proofs.Marks.{none_kept, other_at_point}
use Rattle.nfs_rows.proofs.place.place_of.Goals as goal
use Rattle.nfs_rows.proofs.place.place_of.Goals.{else-at-places-via-then-at-places+then-places-at+else-not-places-at, else-at-places-via-then-at-places+else-places-at, else-at-places-via-else-at-places}

-- the place at the point, by any default
at_point : (ps : List Place) (k at : ℕ) (d e : Place) → k < length ps → k ≡ at → get_or ps k d ≡ get_or ps at e
at_point ps k at d e below here = any_default ps k d e below ∙ ap (λ i. get_or ps i e) here

marked_live : (p q : Place) → p ≡ q → p.gone ≡ false → q.gone ≡ true → ⊥
marked_live p q is live gone = cc

pub returns-else-at-places : goal.returns-else-at-places
returns-else-at-places c =
    let ps = c.args.places.now in
    let at = c.first_from-at.result in
    none_kept c.args.number ps (λ k d below live same.
    let here : k ≡ at = other_at_point c.args.number ps at c.requires c.first_from-at.ensures.point k d below same in
    elim c.else-at-places.branch [
      | else-at-places-via-then-at-places+then-places-at+else-not-places-at w ↦ marked_live (get_or ps k d) (get_or ps at _) (at_point ps k at d _ below here) live w.if-not-places-at.false
      | else-at-places-via-then-at-places+else-places-at w ↦ w.if-places-at.false (sym (ap (λ (p : Place). p.number) (at_point ps k at d _ below here)) ∙ same)
      | else-at-places-via-else-at-places w ↦ omega (arith, w.if-at-places.false, below, here)
    ])
