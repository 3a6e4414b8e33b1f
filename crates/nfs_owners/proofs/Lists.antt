-- Lists of which each element, or each two, pass a test.
use Rattle.std.proofs.Common.{◌≡◌, Bool, true, false, not, cond, ◌&&◌, Option, Some, None, List, [], ◌∷◌, ◌++◌, refl, sym, ap, ◌∙◌, subst, arith, inl, inr, true≢false}
use Rattle.std.specs.Prelude.{◌||◌, filter, find}
use Rattle.std.specs.List.{AllByRecursion, IsDistinct, list_any}
use Rattle.std.proofs.lemmas.Bool.{cases_Bool, cond-false, cond-true, cond_both, false_from_ne_true}
use Rattle.std.proofs.lemmas.List.Folds.{list_any-append}

pub neither : (a b : Bool) → a || b ≡ false → (a ≡ false) × (b ≡ false)
neither false b h = (refl, h)
neither true b h = cc

pub both_false : (a b : Bool) → a ≡ false → b ≡ false → a || b ≡ false
both_false a b not_a not_b = grind (arith, not_a, not_b)

module _ {X : Type 0} where
  pub all_filter : (P Q : X → Type 0) (p : X → Bool) → ((x : X) → P x → p x ≡ true → Q x) → (xs : List X) → AllByRecursion P xs → AllByRecursion Q (filter p xs)
  all_filter P Q p keep [] h = tt
  all_filter P Q p keep (x ∷ xs) h =
      cond_both (p x) (x ∷ filter p xs) (filter p xs) (AllByRecursion Q)
      (λ passes. (keep x h.0 passes, all_filter P Q p keep xs h.1))
      (λ fails. all_filter P Q p keep xs h.1)

  pub all_push : (P : X → Type 0) (xs : List X) (x : X) → AllByRecursion P xs → P x → AllByRecursion P (xs ++ x ∷ [])
  all_push P [] x h last = (last, tt)
  all_push P (y ∷ xs) x h last = (h.0, all_push P xs x h.1 last)

  pub all_weaken : (P Q : X → Type 0) → ((x : X) → P x → Q x) → (xs : List X) → AllByRecursion P xs → AllByRecursion Q xs
  all_weaken P Q weaken [] h = tt
  all_weaken P Q weaken (x ∷ xs) h = (weaken x h.0, all_weaken P Q weaken xs h.1)

  pub all_both : (P Q : X → Type 0) (xs : List X) → AllByRecursion P xs → AllByRecursion Q xs → AllByRecursion (λ x. P x × Q x) xs
  all_both P Q [] h k = tt
  all_both P Q (x ∷ xs) h k = ((h.0, k.0), all_both P Q xs h.1 k.1)

  -- what holds of each element holds of the one that is found
  pub all_find : (P : X → Type 0) (p : X → Bool) (xs : List X) (x : X) → find p xs ≡ Some x → AllByRecursion P xs → P x × (p x ≡ true)
  all_find P p [] x is h = absurd cc
  all_find P p (y ∷ xs) x is h =
      elim (cases_Bool (p y)) [
        | inl passes ↦
            let same : Some y ≡ Some x = sym (cond-true (p y) (Some y) (find p xs) passes) ∙ is in
            let equal : y ≡ x = search same in
            (subst P equal h.0, subst (λ z. p z ≡ true) equal passes)
        | inr fails ↦ all_find P p xs x (sym (cond-false (p y) (Some y) (find p xs) fails) ∙ is) h.1
      ]

  pub none_filtered : (p test : X → Bool) (xs : List X) → list_any test xs ≡ false → list_any test (filter p xs) ≡ false
  none_filtered p test [] none = refl
  none_filtered p test (x ∷ xs) none =
      let parts = neither (test x) (list_any test xs) none in
      let rest = none_filtered p test xs parts.1 in
      cond_both (p x) (x ∷ filter p xs) (filter p xs) (λ ys. list_any test ys ≡ false) (λ _. both_false (test x) (list_any test (filter p xs)) parts.0 rest) (λ _. rest)

  pub none_pushed : (test : X → Bool) (xs : List X) (x : X) → list_any test xs ≡ false → test x ≡ false → list_any test (xs ++ x ∷ []) ≡ false
  none_pushed test xs x none last =
      list_any-append test xs (x ∷ []) ∙ both_false (list_any test xs) (test x || false) none (both_false (test x) false last refl)

  pub none_each : (test : X → Bool) (xs : List X) → list_any test xs ≡ false → AllByRecursion (λ x. test x ≡ false) xs
  none_each test [] none = tt
  none_each test (x ∷ xs) none =
      let parts = neither (test x) (list_any test xs) none in
      (parts.0, none_each test xs parts.1)

  -- tests that agree on each element
  pub any_agree : (p q : X → Bool) (xs : List X) → AllByRecursion (λ x. p x ≡ q x) xs → list_any p xs ≡ list_any q xs
  any_agree p q [] h = refl
  any_agree p q (x ∷ xs) h = λ i. h.0 i || any_agree p q xs h.1 i

  pub find_agree : (p q : X → Bool) (xs : List X) → AllByRecursion (λ x. p x ≡ q x) xs → find p xs ≡ find q xs
  find_agree p q [] h = refl
  find_agree p q (x ∷ xs) h = λ i. cond (h.0 i) (Some x) (find_agree p q xs h.1 i)

  pub filter_agree : (p q : X → Bool) (xs : List X) → AllByRecursion (λ x. p x ≡ q x) xs → filter (λ x. not (p x)) xs ≡ filter (λ x. not (q x)) xs
  filter_agree p q [] h = refl
  filter_agree p q (x ∷ xs) h = λ i. cond (not (h.0 i)) (x ∷ filter_agree p q xs h.1 i) (filter_agree p q xs h.1 i)

  -- what is found among those that pass another test
  pub find_filtered : (p q : X → Bool) (xs : List X) → find p (filter q xs) ≡ find (λ x. q x && p x) xs
  find_filtered p q [] = refl
  find_filtered p q (x ∷ xs) = by (q x) (find_filtered p q xs)
    where
      by : (b : Bool) → find p (filter q xs) ≡ find (λ y. q y && p y) xs → find p (cond b (x ∷ filter q xs) (filter q xs)) ≡ cond (b && p x) (Some x) (find (λ y. q y && p y) xs)
      by true rest = ap (λ found. cond (p x) (Some x) found) rest
      by false rest = rest

  -- what is found, one element after the other
  pub find_step : (test : X → Bool) (x : X) (left rest : List X) (found : Option X) (b : Bool) → left ≡ x ∷ rest → find test left ≡ found → test x ≡ b → cond b (Some x) (find test rest) ≡ found
  find_step test x left rest found b first so_far is = ap (λ c. cond c (Some x) (find test rest)) (sym is) ∙ sym (ap (find test) first) ∙ so_far

  pub none_when : (test : X → Bool) (xs : List X) → find test xs ≡ None → AllByRecursion (λ x. test x ≡ false) xs
  none_when test [] none = tt
  none_when test (x ∷ xs) none = by (test x) refl none (λ later. none_when test xs later)
    where
      by : (b : Bool) → test x ≡ b → cond b (Some x) (find test xs) ≡ None → (find test xs ≡ None → AllByRecursion (λ y. test y ≡ false) xs) → AllByRecursion (λ y. test y ≡ false) (x ∷ xs)
      by true is none later = absurd (cc)
      by false is none later = (is, later none)

  -- an element that passes, with what is known of each
  pub any_has : (P : X → Type 0) (test : X → Bool) (xs : List X) → list_any test xs ≡ true → AllByRecursion P xs → (x : X) × P x × (test x ≡ true)
  any_has P test [] there h = absurd (true≢false (sym there))
  any_has P test (x ∷ xs) there h = by (test x) refl there (λ later. any_has P test xs later h.1)
    where
      by : (b : Bool) → test x ≡ b → (b || list_any test xs) ≡ true → (list_any test xs ≡ true → (y : X) × P y × (test y ≡ true)) → (y : X) × P y × (test y ≡ true)
      by true here there later = (x, h.0, here)
      by false here there later = later there

  pub any_none : (test : X → Bool) (xs : List X) → AllByRecursion (λ x. test x ≡ false) xs → list_any test xs ≡ false
  any_none test [] h = refl
  any_none test (x ∷ xs) h = both_false (test x) (list_any test xs) h.0 (any_none test xs h.1)

  pub none_narrower : (p q : X → Bool) → ((x : X) → q x ≡ true → p x ≡ true) → (xs : List X) → list_any p xs ≡ false → list_any q xs ≡ false
  none_narrower p q narrower xs none =
      any_none q xs (all_weaken (λ x. p x ≡ false) (λ x. q x ≡ false) (λ x fails. false_from_ne_true (q x) (λ passes. true≢false (sym (narrower x passes) ∙ fails))) xs (none_each p xs none))

  pub none_dropped : (p : X → Bool) (xs : List X) → list_any p (filter (λ x. not (p x)) xs) ≡ false
  none_dropped p [] = refl
  none_dropped p (x ∷ xs) = by (p x) refl (none_dropped p xs)
    where
      by : (b : Bool) → p x ≡ b → list_any p (filter (λ y. not (p y)) xs) ≡ false → list_any p (cond (not b) (x ∷ filter (λ y. not (p y)) xs) (filter (λ y. not (p y)) xs)) ≡ false
      by true is rest = rest
      by false is rest = both_false (p x) (list_any p (filter (λ y. not (p y)) xs)) is rest

module _ {X : Type 0} (e : X → X → Bool) where
  pub distinct_none : IsDistinct e []
  unfolding IsDistinct
  distinct_none = tt

  pub distinct_filter : (p : X → Bool) (xs : List X) → IsDistinct e xs → IsDistinct e (filter p xs)
  unfolding IsDistinct
  distinct_filter p [] h = tt
  distinct_filter p (x ∷ xs) h =
      let rest : IsDistinct e (filter p xs) = distinct_filter p xs h.1 in
      let apart = all_filter (λ y. e x y ≡ false) (λ y. e x y ≡ false) p (λ y other _. other) xs h.0 in
      cond_both (p x) (x ∷ filter p xs) (filter p xs) (IsDistinct e) (λ _. (apart, rest)) (λ _. rest)

  pub distinct_push : (xs : List X) (x : X) → IsDistinct e xs → AllByRecursion (λ y. e y x ≡ false) xs → IsDistinct e (xs ++ x ∷ [])
  unfolding IsDistinct
  distinct_push [] x h new = (tt, tt)
  distinct_push (y ∷ xs) x h new = (all_push (λ z. e y z ≡ false) xs x h.0 new.0, distinct_push xs x h.1 new.1)
