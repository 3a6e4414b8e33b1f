-- Writing values one after the other, as a loop does.
use Rattle.std.proofs.Common.{◌≡◌, ℕ, ◌+◌, ◌<◌, ◌≤◌, List, ◌++◌, length, get_or, take, Err, sym, ap, ◌∙◌, arith}
use Rattle.std.specs.Prelude.{vec_capacity, vec_len}
use Rattle.std.specs.List.{All, flat_map}
use Rattle.std.specs.Global.{Vec}
use Rattle.std.proofs.lemmas.List.{length-append, take_at}
use Rattle.std.proofs.lemmas.List.Folds.{length-flat_map-take}
use Rattle.xdr.specs.declared.wire_error.WireError.{WireError}
use Rattle.xdr.specs.Writing.{Writes}

-- Writing fails at one of the values, and what was written before it is removed again.
pub fails_at : {A : Type 0} (encoding : A → List ℕ) (Fits : A → Type 0) (old mid new back : Vec ℕ) (values : List A) (i : ℕ) (value : A) (e : WireError) → i < length values → value ≡ get_or values i value
    → mid.items ≡ old.items ++ flat_map encoding (take i values) → vec_capacity old ≤ vec_capacity mid → back.items ≡ take (vec_len old) new.items → vec_capacity back ≡ vec_capacity new
    → Writes {T = Unit {0}} mid new (Err e) (encoding value) (Fits value) → Writes {T = Unit {0}} old back (Err e) (flat_map encoding values) (All Fits values)
fails_at {A = A} encoding Fits old mid new back values i value e lt is so_far kept taken room w =
    let front = flat_map encoding (take i values) in
    let whole : new.items ≡ old.items ++ front = w.1 ∙ so_far in
    let same : back.items ≡ old.items = taken ∙ ap (take (vec_len old)) whole ∙ take_at old.items front (vec_len old) (sym old.ok.0) in
    let len : length mid.items ≡ length old.items + length front = ap length so_far ∙ length-append old.items front in
    let within = length-flat_map-take encoding values i value lt in (
      tt,
      same,
      (λ too_long all. w.2 too_long (rw is (all i value lt))),
      (λ memory. let here = w.3 memory in let part : length (encoding value) ≡ length (encoding (get_or values i value)) = ap (λ (x : A). length (encoding x)) is in
          omega (arith, old.ok.0, mid.ok.0)),
      w.4,
      omega (arith, w.5, room),
    )
