-- Lemmas on lists: what holds of each element, and what a search finds.
use Rattle.std.proofs.Common.{inl, inr, ◌≡◌, Bool, true, false, cond, ◌||◌, List, [], ◌∷◌, ◌++◌, map, Some, refl, sym, ◌∙◌, ap, subst}
use Rattle.std.specs.Prelude.{filter, find, option_map, unwrap_or}
use Rattle.std.specs.List.{AllByRecursion, list_any}
use Rattle.std.proofs.lemmas.Bool.{cases_Bool, cond-false, cond-true}

module _ {X : Type 0} where
  pub all_weaken : (P Q : X → Type 0) → ((x : X) → P x → Q x) → (xs : List X) → AllByRecursion P xs → AllByRecursion Q xs
  all_weaken P Q weaken [] h = tt
  all_weaken P Q weaken (x ∷ xs) h = (weaken x h.0, all_weaken P Q weaken xs h.1)

  pub all_push : (P : X → Type 0) (xs : List X) (x : X) → AllByRecursion P xs → P x → AllByRecursion P (xs ++ x ∷ [])
  all_push P [] x h last = (last, tt)
  all_push P (y ∷ xs) x h last = (h.0, all_push P xs x h.1 last)

  -- what holds of each element holds of the one that is found, which passes the test
  pub all_found : (P : X → Type 0) (p : X → Bool) (xs : List X) (x : X) → AllByRecursion P xs → find p xs ≡ Some x → P x × (p x ≡ true)
  all_found P p [] x h is = absurd (cc)
  all_found P p (y ∷ xs) x h is =
      elim (cases_Bool (p y)) [
        | inl passes ↦
            let here : Some y ≡ Some x = sym (cond-true (p y) (Some y) (find p xs) passes) ∙ is in
            let same : y ≡ x = ap (λ o. unwrap_or o y) here in
            (subst P same h.0, ap p (sym same) ∙ passes)
        | inr fails ↦ all_found P p xs x h.1 (sym (cond-false (p y) (Some y) (find p xs) fails) ∙ is)
      ]

  -- a search in two lists, the first of which has nothing, or has something
  pub find_beyond : (p : X → Bool) (xs ys : List X) → AllByRecursion (λ x. p x ≡ false) xs → find p (xs ++ ys) ≡ find p ys
  find_beyond p [] ys none = refl
  find_beyond p (x ∷ xs) ys none = cond-false (p x) (Some x) (find p (xs ++ ys)) none.0 ∙ find_beyond p xs ys none.1

  pub find_before : (p : X → Bool) (xs ys : List X) (x : X) → find p xs ≡ Some x → find p (xs ++ ys) ≡ Some x
  find_before p [] ys x is = absurd (cc)
  find_before p (y ∷ xs) ys x is =
      elim (cases_Bool (p y)) [
        | inl passes ↦ cond-true (p y) (Some y) (find p (xs ++ ys)) passes ∙ sym (cond-true (p y) (Some y) (find p xs) passes) ∙ is
        | inr fails ↦ cond-false (p y) (Some y) (find p (xs ++ ys)) fails ∙ find_before p xs ys x (sym (cond-false (p y) (Some y) (find p xs) fails) ∙ is)
      ]

  pub all_map : (P : X → Type 0) (f : X → X) (xs : List X) → AllByRecursion (λ x. P (f x)) xs → AllByRecursion P (map f xs)
  all_map P f [] h = tt
  all_map P f (x ∷ xs) h = (h.0, all_map P f xs h.1)

  pub all_both : (P Q : X → Type 0) (xs : List X) → AllByRecursion P xs → AllByRecursion Q xs → AllByRecursion (λ x. P x × Q x) xs
  all_both P Q [] h k = tt
  all_both P Q (x ∷ xs) h k = ((h.0, k.0), all_both P Q xs h.1 k.1)

  pub all_filter : (P : X → Type 0) (p : X → Bool) (xs : List X) → AllByRecursion P xs → AllByRecursion P (filter p xs)
  all_filter P p [] h = tt
  all_filter P p (x ∷ xs) h =
      elim (p x) as (λ b. AllByRecursion P (cond b (x ∷ filter p xs) (filter p xs))) [
        | true ↦ (h.0, all_filter P p xs h.1)
        | false ↦ all_filter P p xs h.1
      ]

  pub all_always : (P : X → Type 0) → ((x : X) → P x) → (xs : List X) → AllByRecursion P xs
  all_always P h [] = tt
  all_always P h (x ∷ xs) = (h x, all_always P h xs)

  -- What holds of each two elements: after a change of each, with one more, and without some.
  module _ (R : X → X → Type 0) where
    pub pairs_map : (P : X → Type 0) (f : X → X) → ((a b : X) → P a → P b → R a b → R (f a) (f b))
        → (xs : List X) → AllByRecursion P xs → AllByRecursion (λ a. AllByRecursion (R a) xs) xs
        → AllByRecursion (λ a. AllByRecursion (R a) (map f xs)) (map f xs)
    pairs_map P f keeps xs each all =
        all_map (λ a. AllByRecursion (R a) (map f xs)) f xs
        (all_weaken (λ a. P a × AllByRecursion (R a) xs) (λ a. AllByRecursion (R (f a)) (map f xs))
        (λ a h. all_map (R (f a)) f xs
        (all_weaken (λ b. P b × R a b) (λ b. R (f a) (f b)) (λ b k. keeps a b h.0 k.0 k.1) xs (all_both P (R a) xs each h.1)))
        xs (all_both P (λ a. AllByRecursion (R a) xs) xs each all))

    pub pairs_push : (xs : List X) (x : X) → AllByRecursion (λ a. AllByRecursion (R a) xs) xs → AllByRecursion (λ a. R a x) xs
        → AllByRecursion (R x) xs → R x x → AllByRecursion (λ a. AllByRecursion (R a) (xs ++ x ∷ [])) (xs ++ x ∷ [])
    pairs_push xs x all before after self =
        all_push (λ a. AllByRecursion (R a) (xs ++ x ∷ [])) xs x
        (all_weaken (λ a. AllByRecursion (R a) xs × R a x) (λ a. AllByRecursion (R a) (xs ++ x ∷ []))
        (λ a h. all_push (R a) xs x h.0 h.1) xs (all_both (λ a. AllByRecursion (R a) xs) (λ a. R a x) xs all before))
        (all_push (R x) xs x after self)

    pub pairs_filter : (p : X → Bool) (xs : List X) → AllByRecursion (λ a. AllByRecursion (R a) xs) xs
        → AllByRecursion (λ a. AllByRecursion (R a) (filter p xs)) (filter p xs)
    pairs_filter p xs all =
        all_filter (λ a. AllByRecursion (R a) (filter p xs)) p xs
        (all_weaken (λ a. AllByRecursion (R a) xs) (λ a. AllByRecursion (R a) (filter p xs)) (λ a h. all_filter (R a) p xs h) xs all)

-- Lists under a function that says what is seen of each element.
module _ {X Y : Type 0} (v : X → Y) where
  pub find_seen : (p : Y → Bool) (xs : List X) → option_map v (find (λ x. p (v x)) xs) ≡ find p (map v xs)
  find_seen p [] = refl
  find_seen p (x ∷ xs) =
      elim (p (v x)) as (λ b. option_map v (cond b (Some x) (find (λ x. p (v x)) xs)) ≡ cond b (Some (v x)) (find p (map v xs))) [
        | true ↦ refl
        | false ↦ find_seen p xs
      ]

  pub any_seen : (p : Y → Bool) (xs : List X) → list_any (λ x. p (v x)) xs ≡ list_any p (map v xs)
  any_seen p [] = refl
  any_seen p (x ∷ xs) = ap (λ b. p (v x) || b) (any_seen p xs)
