-- Reading an enumeration gives the value whose number is at the front.
use Rattle.std.proofs.Common.{◌≡◌, ℕ, true, eqb, List, [], ◌∷◌, ◌++◌, Bool, Option, Some, None, Ok, refl, sym, ap, subst, ◌∙◌, inl, inr}
use Rattle.std.proofs.lemmas.Bool.{eqb-true}
use Rattle.std.specs.List.{find}
use Rattle.xdr.specs.Layout.{U32}
use Rattle.xdr.specs.Reading.{Reads, number_at, or_short, value_at}
use Rattle.xdr.specs.laws.Reads.{true_or_false, bind_ok, ok_is, reads_number}

-- whatever `find` finds passes the test
pub passes : {A : Type 0} (p : A → Bool) (values : List A) (found : A) → find p values ≡ Some found
    → p found ≡ true
passes p [] found e = absurd cc
passes {A = A} p (value ∷ values) found e =
    elim (true_or_false (p value)) [
      | inl here ↦ let same : ◌≡◌ {A = Option A} (Some value) (Some found) = rw here at e in
          let is : value ≡ found = cc in rw (← is) here
      | inr other ↦ passes p values found (rw other at e)
    ]

or_short_ok : {A : Type 0} (found : Option A) (rest : List ℕ) (y : A × List ℕ)
    → or_short found rest ≡ Ok y → (found ≡ Some y.0) × (rest ≡ y.1)
or_short_ok None rest y e = absurd cc
or_short_ok {A = A} (Some value) rest y e =
    let same = ok_is (value, rest) y e in (ap (λ (x : A × List ℕ). Some x.0) same, ap (λ (x : A × List ℕ). x.1) same)

pub reads_value : {A : Type 0} (number_of : A → ℕ) (values : List A)
    → ((value : A) → find (λ v. eqb (number_of v) (number_of value)) values ≡ Some value)
    → Reads (λ (value : A). U32 (number_of value)) (value_at number_of values)
unfolding value_at
reads_value number_of values known = record {
  sound = λ bytes value rest e.
      let n =
      bind_ok (number_at 4 bytes) (λ n. or_short (find (λ v. eqb (number_of v) n.0) values) n.1) (value, rest) e in
      let found = or_short_ok (find (λ v. eqb (number_of v) n.0.0) values) n.0.1 (value, rest) n.2 in
      let same : number_of value ≡ n.0.0 =
      eqb-true (number_of value) n.0.0 (passes (λ v. eqb (number_of v) n.0.0) values value found.0) in
      let begins = (reads_number 4).sound bytes n.0.0 n.0.1 n.1 in (
        begins.0,
        begins.1 ∙ ap (λ (x : List ℕ). begins.0 ++ x) found.1,
        subst (λ (k : ℕ). U32 k begins.0) (sym same) begins.2,
      );
  complete = λ value front rest h. rw ((reads_number 4).complete (number_of value) front rest h, known value) refl;
}
