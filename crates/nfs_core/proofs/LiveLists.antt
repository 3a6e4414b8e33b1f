-- Lists: whether an element passes a test, before and after others are removed and one is added.
use Rattle.std.proofs.Common.{◌≡◌, ◌⊎◌, inl, inr, Bool, true, false, Some, List, [], ◌∷◌, ◌++◌, filter, refl, sym, ap, ◌∙◌}
use Rattle.std.specs.Prelude.{⊤, ◌&&◌, ◌||◌, find, is_some}
use Rattle.std.specs.List.{AllByRecursion, list_any}
use Rattle.std.proofs.lemmas.Bool.{and_from, and_parts, cases_Bool, cond-false, cond-true, or_cases, or_left, or_parts, or_right}
use Rattle.std.proofs.lemmas.List.Folds.{list_any-append}
use Rattle.nfs_core.proofs.SafeLists.{all_always, any_found}

-- two truth values are equal if each follows from the other
pub bool_equal : (a b : Bool) → (a ≡ true → b ≡ true) → (b ≡ true → a ≡ true) → a ≡ b
bool_equal true b to from = sym (to refl)
bool_equal false true to from = from refl
bool_equal false false to from = refl

-- none passes
pub none_any : {X : Type 0} (p : X → Bool) (xs : List X) → AllByRecursion (λ x. p x ≡ false) xs → list_any p xs ≡ false
none_any p [] none = refl
none_any p (x ∷ xs) none = ap (λ b. b || list_any p xs) none.0 ∙ none_any p xs none.1

-- where none passes, each fails
pub none_passes : {X : Type 0} (p : X → Bool) (xs : List X) → list_any p xs ≡ false → AllByRecursion (λ x. p x ≡ false) xs
none_passes p [] none = tt
none_passes p (x ∷ xs) none =
    let both = or_parts (p x) (list_any p xs) none in
    (both.0, none_passes p xs both.1)

-- the element that passes
pub any_holds : {X : Type 0} (P : X → Type 0) (p : X → Bool) (xs : List X) → list_any p xs ≡ true → AllByRecursion P xs → (x : X) × P x × (p x ≡ true)
any_holds P p [] any h = absurd cc
any_holds P p (x ∷ xs) any h = elim (or_cases (p x) (list_any p xs) any) [
  | inl first ↦ (x, h.0, first)
  | inr beyond ↦ any_holds P p xs beyond h.1
]

-- an element that passes also passes another test, or a third holds
pub any_split : {X : Type 0} (P : X → Type 0) (p q : X → Bool) (Q : Type 0) → ((x : X) → P x → p x ≡ true → (q x ≡ true) ⊎ Q) → (xs : List X) → AllByRecursion P xs → list_any p xs ≡ true → (list_any q xs ≡ true) ⊎ Q
any_split P p q Q splits [] h any = absurd cc
any_split P p q Q splits (x ∷ xs) h any = elim (or_cases (p x) (list_any p xs) any) [
  | inl first ↦ elim (splits x h.0 first) [
    | inl passes ↦ inl (or_left (q x) (list_any q xs) passes)
    | inr holds ↦ inr holds
  ]
  | inr beyond ↦ elim (any_split P p q Q splits xs h.1 beyond) [
    | inl passes ↦ inl (or_right (q x) (list_any q xs) passes)
    | inr holds ↦ inr holds
  ]
]

pub any_weaken : {X : Type 0} (P : X → Type 0) (p q : X → Bool) → ((x : X) → P x → p x ≡ true → q x ≡ true) → (xs : List X) → AllByRecursion P xs → list_any p xs ≡ true → list_any q xs ≡ true
any_weaken P p q weaken [] h any = absurd cc
any_weaken P p q weaken (x ∷ xs) h any = elim (or_cases (p x) (list_any p xs) any) [
  | inl first ↦ or_left (q x) (list_any q xs) (weaken x h.0 first)
  | inr beyond ↦ or_right (q x) (list_any q xs) (any_weaken P p q weaken xs h.1 beyond)
]

-- what is found among the elements that a test keeps, passes both
pub any_of_kept : {X : Type 0} (p q : X → Bool) (xs : List X) → list_any p (filter q xs) ≡ true → list_any (λ x. p x && q x) xs ≡ true
any_of_kept p q [] any = absurd cc
any_of_kept p q (x ∷ xs) any = elim (cases_Bool (q x)) [
  | inl keeps ↦
      elim (or_cases (p x) (list_any p (filter q xs)) (sym (ap (list_any p) (cond-true (q x) (x ∷ filter q xs) (filter q xs) keeps)) ∙ any)) [
        | inl first ↦ or_left (p x && q x) (list_any (λ y. p y && q y) xs) (and_from (p x) (q x) first keeps)
        | inr beyond ↦ or_right (p x && q x) (list_any (λ y. p y && q y) xs) (any_of_kept p q xs beyond)
      ]
  | inr drops ↦
      or_right (p x && q x) (list_any (λ y. p y && q y) xs)
      (any_of_kept p q xs (sym (ap (list_any p) (cond-false (q x) (x ∷ filter q xs) (filter q xs) drops)) ∙ any))
]

pub any_kept : {X : Type 0} (p q : X → Bool) (xs : List X) → list_any (λ x. p x && q x) xs ≡ true → list_any p (filter q xs) ≡ true
any_kept p q [] any = absurd cc
any_kept p q (x ∷ xs) any = elim (cases_Bool (q x)) [
  | inl keeps ↦
      ap (list_any p) (cond-true (q x) (x ∷ filter q xs) (filter q xs) keeps)
      ∙ elim (or_cases (p x && q x) (list_any (λ y. p y && q y) xs) any) [
        | inl first ↦ or_left (p x) (list_any p (filter q xs)) (and_parts (p x) (q x) first).0
        | inr beyond ↦ or_right (p x) (list_any p (filter q xs)) (any_kept p q xs beyond)
      ]
  | inr drops ↦
      ap (list_any p) (cond-false (q x) (x ∷ filter q xs) (filter q xs) drops)
      ∙ elim (or_cases (p x && q x) (list_any (λ y. p y && q y) xs) any) [
        | inl first ↦ absurd (differ (q x) drops (and_parts (p x) (q x) first).1)
        | inr beyond ↦ any_kept p q xs beyond
      ]
]
  where
    differ : (b : Bool) → b ≡ false → b ≡ true → ⊥
    differ b unset is_set = cc

-- with one more element
pub any_pushed : {X : Type 0} (p : X → Bool) (xs : List X) (y : X) → list_any p (xs ++ y ∷ []) ≡ true → (list_any p xs ≡ true) ⊎ (p y ≡ true)
any_pushed p [] y any = elim (or_cases (p y) false any) [ inl last ↦ inr last | inr none ↦ absurd cc ]
any_pushed p (x ∷ xs) y any = elim (or_cases (p x) (list_any p (xs ++ y ∷ [])) any) [
  | inl first ↦ inl (or_left (p x) (list_any p xs) first)
  | inr beyond ↦ elim (any_pushed p xs y beyond) [
    | inl there ↦ inl (or_right (p x) (list_any p xs) there)
    | inr last ↦ inr last
  ]
]

pub any_before : {X : Type 0} (p : X → Bool) (xs : List X) (y : X) → list_any p xs ≡ true → list_any p (xs ++ y ∷ []) ≡ true
any_before p xs y any = list_any-append p xs (y ∷ []) ∙ or_left (list_any p xs) (list_any p (y ∷ [])) any

pub any_last : {X : Type 0} (p : X → Bool) (xs : List X) (y : X) → p y ≡ true → list_any p (xs ++ y ∷ []) ≡ true
any_last p xs y passes = list_any-append p xs (y ∷ []) ∙ or_right (list_any p xs) (list_any p (y ∷ [])) (or_left (p y) false passes)

-- what is found of all elements is found of those that a test keeps and one more, or is the last one
pub any_after : {X : Type 0} (p q : X → Bool) (xs : List X) (y : X) → list_any p (filter q xs ++ y ∷ []) ≡ true → (list_any (λ x. p x && q x) xs ≡ true) ⊎ (p y ≡ true)
any_after p q xs y any = elim (any_pushed p (filter q xs) y any) [
  | inl there ↦ inl (any_of_kept p q xs there)
  | inr last ↦ inr last
]

-- some are removed and one is added
pub any_put : {X : Type 0} (p q : X → Bool) (xs : List X) (y : X) → list_any p (filter q xs ++ y ∷ []) ≡ (p y || list_any (λ x. p x && q x) xs)
any_put p q xs y =
    bool_equal (list_any p (filter q xs ++ y ∷ [])) (p y || list_any (λ x. p x && q x) xs)
    (λ any. elim (any_after p q xs y any) [
      | inl kept ↦ or_right (p y) (list_any (λ x. p x && q x) xs) kept
      | inr last ↦ or_left (p y) (list_any (λ x. p x && q x) xs) last
    ])
    (λ either. elim (or_cases (p y) (list_any (λ x. p x && q x) xs) either) [
      | inl last ↦ any_last p (filter q xs) y last
      | inr kept ↦ any_before p (filter q xs) y (any_kept p q xs kept)
    ])

-- a search finds one
pub found_any : {X : Type 0} (p : X → Bool) (xs : List X) → list_any p xs ≡ true → is_some (find p xs) ≡ true
found_any p [] any = absurd cc
found_any p (x ∷ xs) any = elim (cases_Bool (p x)) [
  | inl here ↦ ap is_some (cond-true (p x) (Some x) (find p xs) here)
  | inr beyond ↦
      ap is_some (cond-false (p x) (Some x) (find p xs) beyond)
      ∙ found_any p xs (elim (or_cases (p x) (list_any p xs) any) [
        | inl first ↦ absurd (differ (p x) beyond first)
        | inr there ↦ there
      ])
]
  where
    differ : (b : Bool) → b ≡ false → b ≡ true → ⊥
    differ b unset is_set = cc

-- what a search finds passes another test
pub any_found_with : {X : Type 0} (p q : X → Bool) (xs : List X) → ((x : X) → p x ≡ true → q x ≡ true) → is_some (find p xs) ≡ true → list_any q xs ≡ true
any_found_with p q xs weaken found =
    any_weaken (λ x. ⊤) p q (λ x _ passes. weaken x passes) xs (all_always xs) (any_found p xs found)
