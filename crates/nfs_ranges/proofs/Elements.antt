-- What holds of each element of a list, and the element at a place.
use Rattle.std.proofs.Common.{◌≡◌, refl, ℕ, zero, suc, ◌+◌, ◌<◌, ◌≤◌, List, [], ◌∷◌, ◌++◌, length, get_or, reverse, drop, take, Some, None, inl, inr, sym, ◌∙◌, ap, subst, arith}
use Rattle.std.specs.Prelude.{find, slice_get, Bool}
use Rattle.std.specs.List.{AllByRecursion}
use Rattle.std.proofs.lemmas.Bool.{cases_Bool}
use Rattle.std.proofs.lemmas.Option.{same_Some}
use mathlib.Core.List.{reverse-cons}
use Rattle.std.proofs.lemmas.List.{at_drop_more, same_from_push, take_more}

module _ {X : Type 0} where
  pub all_weaken : (P Q : X → Type 0) → ((x : X) → P x → Q x) → (xs : List X) → AllByRecursion P xs → AllByRecursion Q xs
  all_weaken P Q weaken [] h = tt
  all_weaken P Q weaken (x ∷ xs) h = (weaken x h.0, all_weaken P Q weaken xs h.1)

  pub all_both : (P Q R : X → Type 0) → ((x : X) → P x → Q x → R x) → (xs : List X) → AllByRecursion P xs
      → AllByRecursion Q xs → AllByRecursion R xs
  all_both P Q R both [] h k = tt
  all_both P Q R both (x ∷ xs) h k = (both x h.0 k.0, all_both P Q R both xs h.1 k.1)

  pub all_append : (P : X → Type 0) (xs ys : List X) → AllByRecursion P xs → AllByRecursion P ys → AllByRecursion P (xs ++ ys)
  all_append P [] ys h k = k
  all_append P (x ∷ xs) ys h k = (h.0, all_append P xs ys h.1 k)

  -- what holds of each holds of the one at a place, and of one that is found
  pub all_get : (P : X → Type 0) (xs : List X) (i : ℕ) (x : X) → AllByRecursion P xs → slice_get xs i ≡ Some x → P x
  all_get P [] i x h is = absurd cc
  all_get P (y ∷ ys) zero x h is = subst P (same_Some y x is) h.0
  all_get P (y ∷ ys) (suc i) x h is = all_get P ys i x h.1 is

  pub all_find : (P : X → Type 0) (test : X → Bool) (xs : List X) (x : X) → AllByRecursion P xs → find test xs ≡ Some x
      → P x
  all_find P test [] x h is = absurd cc
  all_find P test (y ∷ ys) x h is =
      elim (cases_Bool (test y)) [
        | inl passes ↦ subst P (same_Some y x (rw passes at is)) h.0
        | inr fails ↦ all_find P test ys x h.1 (rw fails at is)
      ]

  -- what is found in the first of two lists in a row, and in the second
  pub find_append : (test : X → Bool) (xs ys : List X) (x : X) → find test xs ≡ Some x → find test (xs ++ ys) ≡ Some x
  find_append test [] ys x is = absurd cc
  find_append test (y ∷ xs) ys x is =
      elim (cases_Bool (test y)) [
        | inl passes ↦ rw passes (rw passes at is)
        | inr fails ↦ rw fails (find_append test xs ys x (rw fails at is))
      ]

  pub find_past : (test : X → Bool) (xs ys : List X) → find test xs ≡ None → find test (xs ++ ys) ≡ find test ys
  find_past test [] ys is = refl
  find_past test (y ∷ xs) ys is =
      elim (cases_Bool (test y)) [
        | inl passes ↦
            let some : Some y ≡ None = rw passes at is in
            absurd cc
        | inr fails ↦ rw fails (find_past test xs ys (rw fails at is))
      ]

  pub take_most : (xs : List X) (n : ℕ) → length xs ≤ n → take n xs ≡ xs
  take_most [] zero most = refl
  take_most [] (suc n) most = refl
  take_most (x ∷ xs) zero most = absurd (omega (arith, most))
  take_most (x ∷ xs) (suc n) most = ap (λ ys. x ∷ ys) (take_most xs n (omega (arith, most)))

  -- beyond the last element there is none, and before it there is one
  pub get_none : (xs : List X) (i : ℕ) → slice_get xs i ≡ None → length xs ≤ i
  get_none [] i is = omega arith
  get_none (x ∷ xs) zero is = absurd cc
  get_none (x ∷ xs) (suc i) is = omega (arith, get_none xs i is)

  pub get_some : (xs : List X) (i : ℕ) (x : X) → slice_get xs i ≡ Some x → i < length xs
  get_some [] i x is = absurd cc
  get_some (y ∷ ys) zero x is = omega arith
  get_some (y ∷ ys) (suc i) x is = omega (arith, get_some ys i x is)

  -- the last of the first elements goes over to the others, which stand in the other order
  pub shifted : (xs ys : List X) (n : ℕ) (x : X) → n < length xs → take (n + 1) xs ≡ ys ++ x ∷ []
      → (ys ≡ take n xs) × (reverse (drop n xs) ≡ reverse (drop (n + 1) xs) ++ x ∷ [])
  shifted xs ys n x less is =
      let same = same_from_push (take n xs) ys (get_or xs n x) x (sym (take_more xs n x less) ∙ is) in (
        sym same.0,
        at_drop_more (λ zs. reverse zs) xs n x less
            ∙ reverse-cons (get_or xs n x) (drop (n + 1) xs)
            ∙ ap (λ y. reverse (drop (n + 1) xs) ++ y ∷ []) same.1,
      )
