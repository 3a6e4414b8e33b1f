-- What holds of each element of a list.
use Rattle.std.proofs.Common.{◌≡◌, Bool, false, List, [], ◌∷◌, ◌++◌, map}
use Rattle.std.specs.Prelude.{⊤}
use Rattle.std.specs.List.{AllByRecursion, list_any}
use Rattle.std.proofs.lemmas.Bool.{or_parts}

module _ {X : Type 0} where
  pub all_weaken : (P Q : X → Type 0) → ((x : X) → P x → Q x) → (xs : List X) → AllByRecursion P xs → AllByRecursion Q xs
  all_weaken P Q weaken [] h = tt
  all_weaken P Q weaken (x ∷ xs) h = (weaken x h.0, all_weaken P Q weaken xs h.1)

  pub all_both : (P Q : X → Type 0) (xs : List X) → AllByRecursion P xs → AllByRecursion Q xs → AllByRecursion (λ x. P x × Q x) xs
  all_both P Q [] h k = tt
  all_both P Q (x ∷ xs) h k = ((h.0, k.0), all_both P Q xs h.1 k.1)

  pub all_map : (P : X → Type 0) (f : X → X) (xs : List X) → AllByRecursion (λ x. P (f x)) xs → AllByRecursion P (map f xs)
  all_map P f [] h = tt
  all_map P f (x ∷ xs) h = (h.0, all_map P f xs h.1)

  pub all_push : (P : X → Type 0) (xs : List X) (x : X) → AllByRecursion P xs → P x → AllByRecursion P (xs ++ x ∷ [])
  all_push P [] x h last = (last, tt)
  all_push P (y ∷ xs) x h last = (h.0, all_push P xs x h.1 last)

  pub all_fail : (test : X → Bool) (xs : List X) → list_any test xs ≡ false → AllByRecursion (λ x. test x ≡ false) xs
  all_fail test [] h = tt
  all_fail test (x ∷ xs) h =
      let both = or_parts (test x) (list_any test xs) h in
      (both.0, all_fail test xs both.1)

  pub all_always : (xs : List X) → AllByRecursion (λ x. ⊤) xs
  all_always [] = tt
  all_always (x ∷ xs) = (tt, all_always xs)
