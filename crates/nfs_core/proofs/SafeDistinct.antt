-- Lists in which no two elements are the same by a test.
use Rattle.std.proofs.Common.{◌≡◌, Bool, false, List, [], ◌∷◌, ◌++◌, map, filter, ◌∙◌}
use Rattle.std.specs.List.{AllByRecursion, IsDistinct}
use Rattle.std.proofs.lemmas.Bool.{cond_both}
use Rattle.nfs_core.proofs.SafeLists.{all_filter, all_map, all_push}

module _ {X : Type 0} (e : X → X → Bool) where
  pub distinct_none : IsDistinct e []
  unfolding IsDistinct
  distinct_none = tt

  pub distinct_filter : (p : X → Bool) (xs : List X) → IsDistinct e xs → IsDistinct e (filter p xs)
  unfolding IsDistinct
  distinct_filter p [] h = tt
  distinct_filter p (x ∷ xs) h =
      let rest : IsDistinct e (filter p xs) = distinct_filter p xs h.1 in
      let apart = all_filter (λ y. e x y ≡ false) (λ y. e x y ≡ false) p (λ y other _. other) xs h.0 in
      cond_both (p x) (x ∷ filter p xs) (filter p xs) (IsDistinct e) (λ _. (apart, rest)) (λ _. rest)

  -- after a change of each element that the test can't see
  pub distinct_map : (f : X → X) → ((x y : X) → e (f x) (f y) ≡ e x y) → (xs : List X) → IsDistinct e xs → IsDistinct e (map f xs)
  unfolding IsDistinct
  distinct_map f same [] h = tt
  distinct_map f same (x ∷ xs) h =
      (all_map (λ y. e x y ≡ false) (λ y. e (f x) y ≡ false) f (λ y other. same x y ∙ other) xs h.0, distinct_map f same xs h.1)

  -- with one more that isn't the same as any
  pub distinct_push : (xs : List X) (x : X) → IsDistinct e xs → AllByRecursion (λ y. e y x ≡ false) xs → IsDistinct e (xs ++ x ∷ [])
  unfolding IsDistinct
  distinct_push [] x h new = (tt, tt)
  distinct_push (y ∷ xs) x h new = (all_push (λ z. e y z ≡ false) xs x h.0 new.0, distinct_push xs x h.1 new.1)
