-- What `parse` reads from a text without a plus sign.
use Rattle.std.proofs.Common.{◌≡◌, ◌<◌, ◌^◌, ◌==◌, ℕ, List, [], ◌∷◌, Result, Ok, Err, refl, subst, arith, true, false, slice_index}
use Rattle.std.specs.Prelude.{SomeIff}
use Rattle.std.specs.Result.{result_ok}
use Rattle.std.specs.Char.{digit_value}
use Rattle.std.specs.Str.Parse.{IsNumeral, ParsesUnsigned, digits_value, without_leading_plus}
use Rattle.std.proofs.lemmas.Bool.{eqb-true}

pub plus_is_no_digit : (bs : List ℕ) → (slice_index bs 0 == 43) ≡ true → IsNumeral 10 bs → ⊥
plus_is_no_digit [] e n = absurd (omega arith)
plus_is_no_digit (b ∷ bs) e n =
    let is : b ≡ 43 = eqb-true b 43 e in
    let digit : digit_value 43 < 10 = subst (λ x. digit_value x < 10) is n.1.0 in
    absurd (omega arith)

no_plus : (bs : List ℕ) → (slice_index bs 0 == 43) ≡ false → without_leading_plus bs ≡ bs
no_plus bs e = rw e refl

pub parsed : {E : Type 0} (bs : List ℕ) (r : Result ℕ E) → (slice_index bs 0 == 43) ≡ false → ParsesUnsigned 64 10 bs r
    → SomeIff (result_ok r) (IsNumeral 10 bs × (digits_value 10 bs < 2 ^ 64)) (digits_value 10 bs)
parsed bs (Ok n) e h = subst (λ ds. (IsNumeral 10 ds × (digits_value 10 ds < 2 ^ 64)) × (n ≡ digits_value 10 ds)) (no_plus bs e) h
parsed bs (Err x) e h = subst (λ ds. IsNumeral 10 ds × (digits_value 10 ds < 2 ^ 64) → ⊥) (no_plus bs e) h
