-- Lists: what holds of each element, and what a search finds.
use Rattle.std.proofs.Common.{◌≡◌, ◌⊎◌, inl, inr, ℕ, zero, suc, Bool, true, false, Some, None, List, [], ◌∷◌, ◌++◌, map, filter, slice_set, refl, sym, ap, ◌∙◌, subst}
use Rattle.std.specs.Prelude.{⊤, find, is_some, option_map, replicate}
use Rattle.std.specs.List.{AllByRecursion, list_any}
use Rattle.std.proofs.lemmas.Bool.{cond-true, cond-false, cond_both, cases_Bool, or_left, or_right}

pub all_weaken : {X : Type 0} (P Q : X → Type 0) → ((x : X) → P x → Q x) → (xs : List X) → AllByRecursion P xs → AllByRecursion Q xs
all_weaken P Q weaken [] h = tt
all_weaken P Q weaken (x ∷ xs) h = (weaken x h.0, all_weaken P Q weaken xs h.1)

pub all_map : {X : Type 0} (P Q : X → Type 0) (f : X → X) → ((x : X) → P x → Q (f x)) → (xs : List X) → AllByRecursion P xs → AllByRecursion Q (map f xs)
all_map P Q f step [] h = tt
all_map P Q f step (x ∷ xs) h = (step x h.0, all_map P Q f step xs h.1)

-- what holds of each element that a filter keeps
pub all_filter : {X : Type 0} (P Q : X → Type 0) (p : X → Bool) → ((x : X) → P x → p x ≡ true → Q x) → (xs : List X) → AllByRecursion P xs → AllByRecursion Q (filter p xs)
all_filter P Q p keep [] h = tt
all_filter P Q p keep (x ∷ xs) h =
    cond_both (p x) (x ∷ filter p xs) (filter p xs) (AllByRecursion Q)
    (λ passes. (keep x h.0 passes, all_filter P Q p keep xs h.1))
    (λ fails. all_filter P Q p keep xs h.1)

pub all_push : {X : Type 0} (P : X → Type 0) (xs : List X) (x : X) → AllByRecursion P xs → P x → AllByRecursion P (xs ++ x ∷ [])
all_push P [] x h last = (last, tt)
all_push P (y ∷ xs) x h last = (h.0, all_push P xs x h.1 last)

pub all_always : {X : Type 0} (xs : List X) → AllByRecursion (λ x. ⊤) xs
all_always [] = tt
all_always (x ∷ xs) = (tt, all_always xs)

pub all_replicate : {X : Type 0} (P : X → Type 0) (x : X) → P x → (n : ℕ) → AllByRecursion P (replicate n x)
all_replicate P x h zero = tt
all_replicate P x h (suc n) = (h, all_replicate P x h n)

pub map_replicate : {X Y : Type 0} (f : X → Y) (x : X) (n : ℕ) → map f (replicate n x) ≡ replicate n (f x)
map_replicate f x zero = refl
map_replicate f x (suc n) = ap (λ xs. f x ∷ xs) (map_replicate f x n)

pub all_set : {X : Type 0} (P : X → Type 0) (xs : List X) (n : ℕ) (x : X) → AllByRecursion P xs → P x → AllByRecursion P (slice_set xs n x)
all_set P [] n x h new = tt
all_set P (y ∷ xs) zero x h new = (new, h.1)
all_set P (y ∷ xs) (suc n) x h new = (h.0, all_set P xs n x h.1 new)

-- what holds of each element holds of the one that is found
pub all_find : {X : Type 0} (P : X → Type 0) (p : X → Bool) (xs : List X) (x : X) → find p xs ≡ Some x → AllByRecursion P xs → P x × (p x ≡ true)
all_find P p [] x is h = absurd cc
all_find P p (y ∷ xs) x is h =
    elim (cases_Bool (p y)) [
      | inl passes ↦
          let same : Some y ≡ Some x = sym (cond-true (p y) (Some y) (find p xs) passes) ∙ is in
          let equal : y ≡ x = search same in
          (subst P equal h.0, subst (λ z. p z ≡ true) equal passes)
      | inr fails ↦ all_find P p xs x (sym (cond-false (p y) (Some y) (find p xs) fails) ∙ is) h.1
    ]

-- no element passes a test that finds none
pub all_none : {X : Type 0} (p : X → Bool) (xs : List X) → find p xs ≡ None → AllByRecursion (λ x. p x ≡ false) xs
all_none p [] none = tt
all_none p (y ∷ xs) none =
    elim (cases_Bool (p y)) [
      | inl passes ↦
          let same : Some y ≡ None = sym (cond-true (p y) (Some y) (find p xs) passes) ∙ none in
          absurd cc
      | inr fails ↦ (fails, all_none p xs (sym (cond-false (p y) (Some y) (find p xs) fails) ∙ none))
    ]

-- what is found first, or else behind the first element
pub found_cases : {X : Type 0} (p : X → Bool) (x : X) (xs : List X) → is_some (find p (x ∷ xs)) ≡ true → (p x ≡ true) ⊎ (is_some (find p xs) ≡ true)
found_cases p x xs found = elim (cases_Bool (p x)) [
  | inl passes ↦ inl passes
  | inr fails ↦ inr (sym (ap is_some (cond-false (p x) (Some x) (find p xs) fails)) ∙ found)
]

pub found_first : {X : Type 0} (p : X → Bool) (x : X) (xs : List X) → p x ≡ true → is_some (find p (x ∷ xs)) ≡ true
found_first p x xs passes = ap is_some (cond-true (p x) (Some x) (find p xs) passes)

pub found_beyond : {X : Type 0} (p : X → Bool) (x : X) (xs : List X) → is_some (find p xs) ≡ true → is_some (find p (x ∷ xs)) ≡ true
found_beyond p x xs found = cond_both (p x) (Some x) (find p xs) (λ o. is_some o ≡ true) (λ _. refl) (λ _. found)

-- what is found in a list is found in it with more at the end
pub found_more : {X : Type 0} (p : X → Bool) (xs ys : List X) → is_some (find p xs) ≡ true → is_some (find p (xs ++ ys)) ≡ true
found_more p [] ys found = absurd cc
found_more p (x ∷ xs) ys found = elim (found_cases p x xs found) [
  | inl first ↦ found_first p x (xs ++ ys) first
  | inr beyond ↦ found_beyond p x (xs ++ ys) (found_more p xs ys beyond)
]

pub found_last : {X : Type 0} (p : X → Bool) (xs : List X) (y : X) → p y ≡ true → is_some (find p (xs ++ y ∷ [])) ≡ true
found_last p [] y passes = found_first p y [] passes
found_last p (x ∷ xs) y passes = found_beyond p x (xs ++ y ∷ []) (found_last p xs y passes)

-- What is found is found still where a filter keeps it.
pub found_filtered : {X : Type 0} (P : X → Type 0) (p q : X → Bool) → ((x : X) → P x → p x ≡ true → q x ≡ true)
    → (xs : List X) → AllByRecursion P xs → is_some (find p xs) ≡ true → is_some (find p (filter q xs)) ≡ true
found_filtered P p q keep [] h found = absurd cc
found_filtered P p q keep (x ∷ xs) h found = elim (found_cases p x xs found) [
  | inl first ↦ subst (λ zs. is_some (find p zs) ≡ true) (sym (cond-true (q x) (x ∷ filter q xs) (filter q xs) (keep x h.0 first))) (found_first p x (filter q xs) first)
  | inr beyond ↦ cond_both (q x) (x ∷ filter q xs) (filter q xs) (λ zs. is_some (find p zs) ≡ true)
      (λ _. found_beyond p x (filter q xs) (found_filtered P p q keep xs h.1 beyond))
      (λ _. found_filtered P p q keep xs h.1 beyond)
]

-- Something is found still where a filter keeps what is found, or the element that is added would be found too.
pub found_kept : {X : Type 0} (P : X → Type 0) (p q : X → Bool) (y : X) → ((x : X) → P x → p x ≡ true → (q x ≡ true) ⊎ (p y ≡ true))
    → (xs : List X) → AllByRecursion P xs → is_some (find p xs) ≡ true → is_some (find p (filter q xs ++ y ∷ [])) ≡ true
found_kept P p q y keep xs h found = elim (cases_Bool (p y)) [
  | inl passes ↦ found_last p (filter q xs) y passes
  | inr fails ↦
      let keeps : (x : _) → P x → p x ≡ true → q x ≡ true =
      λ x has passes. elim (keep x has passes) [
        | inl kept ↦ kept
        | inr last ↦ absurd cc
      ] in
      found_more p (filter q xs) (y ∷ []) (found_filtered P p q keeps xs h found)
]

-- A change of each element that the test can't see leaves what is found.
pub found_map : {X : Type 0} (p : X → Bool) (f : X → X) → ((x : X) → p x ≡ true → p (f x) ≡ true) → (xs : List X) → is_some (find p xs) ≡ true → is_some (find p (map f xs)) ≡ true
found_map p f same [] found = absurd cc
found_map p f same (x ∷ xs) found = elim (found_cases p x xs found) [
  | inl first ↦ found_first p (f x) (map f xs) (same x first)
  | inr beyond ↦ found_beyond p (f x) (map f xs) (found_map p f same xs beyond)
]

-- where something is found, there is an element that passes the test, and what holds of each holds of it
pub found_holds : {X : Type 0} (P : X → Type 0) (p : X → Bool) (xs : List X) → is_some (find p xs) ≡ true → AllByRecursion P xs → (x : X) × P x × (p x ≡ true)
found_holds P p [] found h = absurd cc
found_holds P p (x ∷ xs) found h = elim (found_cases p x xs found) [
  | inl first ↦ (x, h.0, first)
  | inr beyond ↦ found_holds P p xs beyond h.1
]

-- where an element is found, something is found by each test that it passes
pub found_some : {X : Type 0} (p q : X → Bool) (xs : List X) (x : X) → find p xs ≡ Some x → q x ≡ true → is_some (find q xs) ≡ true
found_some p q [] x is passes = absurd cc
found_some p q (y ∷ xs) x is passes = elim (cases_Bool (p y)) [
  | inl here ↦
      let same : Some y ≡ Some x = sym (cond-true (p y) (Some y) (find p xs) here) ∙ is in
      let equal : y ≡ x = search same in
      found_first q y xs (ap q equal ∙ passes)
  | inr fails ↦ found_beyond q y xs (found_some p q xs x (sym (cond-false (p y) (Some y) (find p xs) fails) ∙ is) passes)
]

-- where something is found, an element passes the test
pub any_found : {X : Type 0} (p : X → Bool) (xs : List X) → is_some (find p xs) ≡ true → list_any p xs ≡ true
any_found p [] found = absurd cc
any_found p (x ∷ xs) found = elim (found_cases p x xs found) [
  | inl first ↦ or_left (p x) (list_any p xs) first
  | inr beyond ↦ or_right (p x) (list_any p xs) (any_found p xs beyond)
]

-- Where something is found by one test, and all that pass it pass another, something is found by that one.
pub found_by : {X : Type 0} (p q : X → Bool) → ((x : X) → p x ≡ true → q x ≡ true) → (xs : List X) → is_some (find p xs) ≡ true → is_some (find q xs) ≡ true
found_by p q passes [] found = absurd cc
found_by p q passes (x ∷ xs) found = elim (found_cases p x xs found) [
  | inl first ↦ found_first q x xs (passes x first)
  | inr beyond ↦ found_beyond q x xs (found_by p q passes xs beyond)
]

-- What is found, where a filter keeps all that pass the test.
pub find_filtered : {X : Type 0} (p q : X → Bool) → ((x : X) → p x ≡ true → q x ≡ true) → (xs : List X) → find p (filter q xs) ≡ find p xs
find_filtered p q keep [] = refl
find_filtered p q keep (x ∷ xs) = elim (cases_Bool (p x)) [
  | inl passes ↦
      ap (find p) (cond-true (q x) (x ∷ filter q xs) (filter q xs) (keep x passes))
      ∙ cond-true (p x) (Some x) (find p (filter q xs)) passes
      ∙ sym (cond-true (p x) (Some x) (find p xs) passes)
  | inr fails ↦
      let beyond = find_filtered p q keep xs ∙ sym (cond-false (p x) (Some x) (find p xs) fails) in
      cond_both (q x) (x ∷ filter q xs) (filter q xs) (λ zs. find p zs ≡ find p (x ∷ xs))
      (λ _. cond-false (p x) (Some x) (find p (filter q xs)) fails ∙ beyond)
      (λ _. beyond)
]

-- What is found, after a change of each element that the test can't see.
pub find_mapped : {X : Type 0} (p : X → Bool) (f : X → X) → ((x : X) → p (f x) ≡ p x) → (xs : List X) → find p (map f xs) ≡ option_map f (find p xs)
find_mapped p f same [] = refl
find_mapped p f same (x ∷ xs) = elim (cases_Bool (p x)) [
  | inl passes ↦
      cond-true (p (f x)) (Some (f x)) (find p (map f xs)) (same x ∙ passes)
      ∙ sym (ap (option_map f) (cond-true (p x) (Some x) (find p xs) passes))
  | inr fails ↦
      cond-false (p (f x)) (Some (f x)) (find p (map f xs)) (same x ∙ fails)
      ∙ find_mapped p f same xs
      ∙ sym (ap (option_map f) (cond-false (p x) (Some x) (find p xs) fails))
]

-- What is found stays so with more at the end.
pub find_more : {X : Type 0} (p : X → Bool) (xs ys : List X) → is_some (find p xs) ≡ true → find p (xs ++ ys) ≡ find p xs
find_more p [] ys found = absurd cc
find_more p (x ∷ xs) ys found = elim (cases_Bool (p x)) [
  | inl passes ↦
      cond-true (p x) (Some x) (find p (xs ++ ys)) passes ∙ sym (cond-true (p x) (Some x) (find p xs) passes)
  | inr fails ↦
      let beyond = cond-false (p x) (Some x) (find p xs) fails in
      cond-false (p x) (Some x) (find p (xs ++ ys)) fails
      ∙ find_more p xs ys (sym (ap is_some beyond) ∙ found)
      ∙ sym beyond
]

-- What holds of each element and what holds of it too.
pub all_both : {X : Type 0} (P Q : X → Type 0) (xs : List X) → AllByRecursion P xs → AllByRecursion Q xs → AllByRecursion (λ x. P x × Q x) xs
all_both P Q [] h k = tt
all_both P Q (x ∷ xs) h k = ((h.0, k.0), all_both P Q xs h.1 k.1)

-- What holds of each two elements: after a change of each, with one more, and without some.
module _ {X : Type 0} (R : X → X → Type 0) where
  pub pairs_map : (f : X → X) → ((a b : X) → R a b → R (f a) (f b)) → (xs : List X)
      → AllByRecursion (λ a. AllByRecursion (R a) xs) xs → AllByRecursion (λ a. AllByRecursion (R a) (map f xs)) (map f xs)
  pairs_map f keeps xs all =
      all_map (λ a. AllByRecursion (R a) xs) (λ a. AllByRecursion (R a) (map f xs)) f
      (λ a h. all_map (R a) (R (f a)) f (λ b k. keeps a b k) xs h) xs all

  pub pairs_push : (xs : List X) (x : X) → AllByRecursion (λ a. AllByRecursion (R a) xs) xs → AllByRecursion (λ a. R a x) xs
      → AllByRecursion (R x) xs → R x x → AllByRecursion (λ a. AllByRecursion (R a) (xs ++ x ∷ [])) (xs ++ x ∷ [])
  pairs_push xs x all before after self =
      all_push (λ a. AllByRecursion (R a) (xs ++ x ∷ [])) xs x
      (all_weaken (λ a. AllByRecursion (R a) xs × R a x) (λ a. AllByRecursion (R a) (xs ++ x ∷ []))
      (λ a h. all_push (R a) xs x h.0 h.1) xs (all_both (λ a. AllByRecursion (R a) xs) (λ a. R a x) xs all before))
      (all_push (R x) xs x after self)

  pub pairs_filter : (p : X → Bool) (xs : List X) → AllByRecursion (λ a. AllByRecursion (R a) xs) xs
      → AllByRecursion (λ a. AllByRecursion (R a) (filter p xs)) (filter p xs)
  pairs_filter p xs all =
      all_filter (λ a. AllByRecursion (R a) xs) (λ a. AllByRecursion (R a) (filter p xs)) p
      (λ a h _. all_filter (R a) (R a) p (λ b k _. k) xs h) xs all
