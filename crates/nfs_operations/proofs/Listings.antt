-- Lists that are compared by place.
use Rattle.std.proofs.Common.{◌≡◌, ℕ, ◌<◌, ◌≤◌, List, [], ◌∷◌, length, get_or, refl, arith}
use Rattle.std.proofs.lemmas.List.{ext_get_or}

-- lists of one length that have the same at each place are one
pub are_same : {A : Type 0} (these those : List A) (n : ℕ) → length these ≡ length those → length these ≤ n → ((k : ℕ) (d : A) → k < n → get_or these k d ≡ get_or those k d) → these ≡ those
are_same [] [] n len within each = refl
are_same [] (other ∷ those) n len within each = absurd (omega (arith, len))
are_same (entry ∷ these) those n len within each = ext_get_or entry (entry ∷ these) those len (λ i lt. each i entry (omega (arith, lt, within)))
