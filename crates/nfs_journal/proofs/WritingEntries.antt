-- Writing values one after the other, each by its number.
use Rattle.std.proofs.Common.{◌≡◌, ℕ, ◌+◌, ◌<◌, ◌≤◌, List, [], ◌∷◌, ◌++◌, length, get_or, take, Err, Some, inl, inr, sym, subst, ap, ◌∙◌, arith}
use Rattle.std.specs.Prelude.{slice_get, vec_capacity, vec_len}
use Rattle.std.specs.List.{All, flat_map}
use Rattle.std.specs.Global.{Vec}
use Rattle.std.proofs.lemmas.Bool.Decides.{leb_tells}
use Rattle.std.proofs.lemmas.Grind.{flat_map-append}
use Rattle.std.proofs.lemmas.List.{append-nil, length-append, take_at, take_more}
use Rattle.std.proofs.lemmas.List.Folds.{length-flat_map-take}
use Rattle.std.proofs.lemmas.Option.{get_or_from_slice_get, slice_get_within}
use Rattle.xdr.specs.declared.wire_error.WireError.{WireError}
use Rattle.xdr.specs.Writing.{Writes}

-- the encodings of the values so far, and of the next one
pub one_more : {A : Type 0} (encoding : A → List ℕ) (values : List A) (i : ℕ) (value : A) → slice_get values i ≡ Some value
    → flat_map encoding (take (i + 1) values) ≡ flat_map encoding (take i values) ++ encoding value
one_more encoding values i value is =
    let next : take (i + 1) values ≡ take i values ++ value ∷ [] =
    take_more values i value (slice_get_within values i value is) ∙ ap (λ v. take i values ++ v ∷ []) (get_or_from_slice_get values i value value is) in
    ap (flat_map encoding) next ∙ flat_map-append encoding (take i values) (value ∷ [])
    ∙ ap (λ (x : List ℕ). flat_map encoding (take i values) ++ x) (append-nil (encoding value))

-- the values so far fit their form, and the next one does
pub fit_more : {A : Type 0} (Fits : A → Type 0) (values : List A) (i : ℕ) (value : A) → slice_get values i ≡ Some value
    → ((k : ℕ) (d : A) → k < i → Fits (get_or values k d)) → Fits value → (k : ℕ) (d : A) → k < i + 1 → Fits (get_or values k d)
fit_more {A = A} Fits values i value at so_far fits k d below = elim (leb_tells i k) [
  | inl from ↦
      let last : i ≡ k = omega (arith, from.1, below) in
      subst (λ n. Fits (get_or values n d)) last (subst Fits (sym (get_or_from_slice_get values i value d at)) fits)
  | inr before ↦ so_far k d before.1
]

-- writing fails at one of the values, and what was written before it is removed again
pub fails_at : {A : Type 0} (encoding : A → List ℕ) (Fits : A → Type 0) (old mid new back : Vec ℕ) (values : List A) (i : ℕ) (value : A) (e : WireError) → slice_get values i ≡ Some value
    → mid.items ≡ old.items ++ flat_map encoding (take i values) → vec_capacity old ≤ vec_capacity mid → back.items ≡ take (vec_len old) new.items → vec_capacity back ≡ vec_capacity new
    → Writes {T = Unit {0}} mid new (Err e) (encoding value) (Fits value) → Writes {T = Unit {0}} old back (Err e) (flat_map encoding values) (All Fits values)
fails_at {A = A} encoding Fits old mid new back values i value e at so_far kept taken room w =
    let lt = slice_get_within values i value at in
    let is : value ≡ get_or values i value = sym (get_or_from_slice_get values i value value at) in
    let front = flat_map encoding (take i values) in
    let whole : new.items ≡ old.items ++ front = w.1 ∙ so_far in
    let same : back.items ≡ old.items = taken ∙ ap (take (vec_len old)) whole ∙ take_at old.items front (vec_len old) (sym old.ok.0) in
    let len : length mid.items ≡ length old.items + length front = ap length so_far ∙ length-append old.items front in
    let within = length-flat_map-take encoding values i value lt in (
      tt,
      same,
      (λ too_long all. w.2 too_long (rw is (all i value lt))),
      (λ memory. let here = w.3 memory in let part : length (encoding value) ≡ length (encoding (get_or values i value)) = ap (λ (x : A). length (encoding x)) is in
          omega (arith, old.ok.0, mid.ok.0)),
      w.4,
      omega (arith, w.5, room),
    )
