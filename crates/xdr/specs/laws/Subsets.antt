-- The layout of values that are made from some values of another form.
use Rattle.std.proofs.Common.{◌≡◌, ℕ, List, ◌++◌, Option, Some, None, Ok, refl, sym, ap, subst, ◌∙◌}
use Rattle.xdr.specs.Reading.{Read, Reads, some_at, or_short}
use Rattle.xdr.specs.laws.Reads.{bind_ok, ok_is}

some_is : {B : Type 0} (o : Option B) (rest : List ℕ) (y : B × List ℕ) → or_short o rest ≡ Ok y
    → (o ≡ Some y.0) × (rest ≡ y.1)
some_is None rest y e = absurd cc
some_is {B = B} (Some b) rest y e =
    let is : (b, rest) ≡ y = ok_is (b, rest) y e in
    (ap (λ (x : B × List ℕ). Some x.0) is, ap (λ (x : B × List ℕ). x.1) is)

pub reads_some :
    {A B : Type 0} (P : A → List ℕ → Type 0) (f : List ℕ → Read A) (make : A → Option B) (fields : B → A)
    → ((a : A) (b : B) → make a ≡ Some b → fields b ≡ a) → Reads P f
    → Reads (λ (b : B) bytes. (make (fields b) ≡ Some b) × P (fields b) bytes) (some_at make f)
reads_some {A = A} P f make fields back p = record {
  sound = λ bytes value rest e.
      let a = bind_ok (f bytes) (λ a. or_short (make a.0) a.1) (value, rest) e in
      let made = some_is (make a.0.0) a.0.1 (value, rest) a.2 in
      let same : fields value ≡ a.0.0 = back a.0.0 value made.0 in
      let found = p.sound bytes a.0.0 a.0.1 a.1 in
      let layout : P (fields value) found.0 = subst (λ (w : A). P w found.0) (sym same) found.2 in
      (found.0, found.1 ∙ ap (λ (r : List ℕ). found.0 ++ r) made.1, (ap make same ∙ made.0, layout));
  complete = λ value front rest h. rw (p.complete (fields value) front rest h.1, h.0) refl;
}
