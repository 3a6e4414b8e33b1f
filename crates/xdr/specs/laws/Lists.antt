-- Values one after the other: the laws of reading and encoding them.
use Rattle.std.proofs.Common.{◌≡◌, ℕ, zero, suc, ◌<◌, ◌≤◌, ◌^◌, false, ltb, cond, List, [], ◌∷◌, ◌++◌, length, Ok, Err, refl, ap, subst, ◌∙◌, append_assoc, arith}
use Rattle.std.proofs.lemmas.Bool.{ltb-false, le-ltb}
use Rattle.std.specs.List.{All, flat_map}
use Rattle.xdr.specs.declared.wire_error.WireError.TheVariants as errors
use Rattle.xdr.specs.Layout.{U32, Each, Many}
use Rattle.xdr.specs.Reading.{Read, Reads, Begins, ◌then◌, number_at, each_at, many_at}
use Rattle.xdr.specs.Writing.{written_u32, written_many}
use Rattle.xdr.specs.laws.Reads.{bind_ok, guard_ok, ok_is, Begins-then, reads_then, as_value_gives, reads_number}
use Rattle.xdr.specs.laws.Spells.{number_is_encoded}

-- `count` values, one after the other
abbrev HoldEach : {A : Type 0} → (A → List ℕ → Type 0) → ℕ → List A → List ℕ → Type 0
HoldEach P count values = λ bytes. (length values ≡ count) × Each P values bytes

more_sound : {A : Type 0} (P : A → List ℕ → Type 0) (f : List ℕ → Read A) → Reads P f → (count : ℕ)
    → Reads (HoldEach P count) (each_at f count) → (bytes : List ℕ) (y : List A × List ℕ)
    → each_at f (suc count) bytes ≡ Ok y → Begins (HoldEach P (suc count) y.0) bytes y.1
unfolding each_at
more_sound {A = A} P f law count more bytes y e =
    let both = reads_then P (HoldEach P count) f (each_at f count) law more in
    as_value_gives (f then each_at f count) (λ (p : A × List A). p.0 ∷ p.1)
    (λ (y : List A × List ℕ). Begins (HoldEach P (suc count) y.0) bytes y.1) bytes
    (λ x g. let b = both.sound bytes x.0 x.1 g in
    (b.0, b.1, (ap suc b.2.4.0, (b.2.0, b.2.1, b.2.2, b.2.3, b.2.4.1)))) y e

more_complete : {A : Type 0} (P : A → List ℕ → Type 0) (f : List ℕ → Read A) → Reads P f
    → (count : ℕ) → Reads (HoldEach P count) (each_at f count)
    → (values : List A) (front rest : List ℕ) → HoldEach P (suc count) values front
    → each_at f (suc count) (front ++ rest) ≡ Ok (values, rest)
unfolding each_at
more_complete P f law count more [] front rest h = absurd (omega (arith, h.0))
more_complete P f law count more (value ∷ values) front rest h =
    let len : length values ≡ count = omega (arith, h.0) in
    let both = reads_then P (HoldEach P count) f (each_at f count) law more in
    rw (both.complete (value, values) front rest (h.1.0, h.1.1, h.1.2, h.1.3, (len, h.1.4))) refl

none_sound : {A : Type 0} (P : A → List ℕ → Type 0) (f : List ℕ → Read A) (bytes : List ℕ) (y : List A × List ℕ)
    → each_at f 0 bytes ≡ Ok y → Begins (HoldEach P 0 y.0) bytes y.1
unfolding each_at
none_sound {A = A} P f bytes y e =
    subst (λ (y : List A × List ℕ). Begins (HoldEach P 0 y.0) bytes y.1)
    (ok_is ([], bytes) y e) ([], refl, (refl, refl))

none_complete : {A : Type 0} (P : A → List ℕ → Type 0) (f : List ℕ → Read A) (values : List A) (front rest : List ℕ)
    → HoldEach P 0 values front → each_at f 0 (front ++ rest) ≡ Ok (values, rest)
unfolding each_at
none_complete P f [] front rest h = rw h.1 refl
none_complete P f (value ∷ values) front rest h = absurd (omega (arith, h.0))

pub reads_each : {A : Type 0} (P : A → List ℕ → Type 0) (f : List ℕ → Read A) → Reads P f
    → (count : ℕ) → Reads (HoldEach P count) (each_at f count)
reads_each P f law zero =
    record { sound = λ bytes values rest e. none_sound P f bytes (values, rest) e; complete = none_complete P f }
reads_each P f law (suc count) = record {
  sound = λ bytes values rest e. more_sound P f law count (reads_each P f law count) bytes (values, rest) e;
  complete = more_complete P f law count (reads_each P f law count);
}

pub reads_many : {A : Type 0} (limit : ℕ) (P : A → List ℕ → Type 0) (f : List ℕ → Read A)
    → Reads P f → Reads (Many limit P) (many_at limit f)
unfolding many_at
reads_many limit P f law = record {
  sound = λ bytes values rest e.
      let n = bind_ok (number_at 4 bytes)
      (λ n. cond (ltb limit n.0) (Err errors.TooLong) (each_at f n.0 n.1)) (values, rest) e in
      let g = guard_ok (ltb limit n.0.0) errors.TooLong (each_at f n.0.0 n.0.1) (values, rest) n.2 in
      let within : n.0.0 ≤ limit = ltb-false _ _ g.0 in
      let count = (reads_number 4).sound bytes n.0.0 n.0.1 n.1 in
      let back = (reads_each P f law n.0.0).sound n.0.1 values rest g.1 in
      let all = Begins-then (U32 (length values)) (Each P values) bytes n.0.1 rest (rw back.2.0 count)
      (back.0, back.1, back.2.1) in
      (all.0, all.1, (omega (arith, back.2.0), all.2));
  complete = λ values front rest h.
      let head = h.1.0 in
      let tail = h.1.1 in
      let regrouped : front ++ rest ≡ head ++ (tail ++ rest) =
      ap (λ (x : List ℕ). x ++ rest) h.1.2 ∙ append_assoc head tail rest in
      let number : number_at 4 (front ++ rest) ≡ Ok (length values, tail ++ rest) =
      ap (number_at 4) regrouped ∙ (reads_number 4).complete (length values) head (tail ++ rest) h.1.3 in
      let within : ltb limit (length values) ≡ false = le-ltb _ _ h.0 in
      rw (number, within, (reads_each P f law (length values)).complete values tail rest (refl, h.1.4)) refl;
}

each_stand : {A : Type 0} (P : A → List ℕ → Type 0) (f : A → List ℕ) (Fits : A → Type 0)
    → ((value : A) → Fits value → P value (f value)) → (values : List A) → All Fits values
    → Each P values (flat_map f values)
each_stand P f Fits law [] fits = refl
each_stand P f Fits law (value ∷ values) fits = (
  f value,
  flat_map f values,
  refl,
  law value (fits 0 value (omega arith)),
  each_stand P f Fits law values (λ k d lt. fits (suc k) d (omega (arith, lt))),
)

pub many_are_encoded :
    {A : Type 0} (limit : ℕ) (P : A → List ℕ → Type 0) (f : A → List ℕ) (Fits : A → Type 0)
    → ((value : A) → Fits value → P value (f value)) → (values : List A) → length values ≤ limit
    → length values < 2 ^ 32 → All Fits values → Many limit P values (written_many f values)
many_are_encoded limit P f Fits law values within fits all = (
  within,
  (
    written_u32 (length values),
    flat_map f values,
    refl,
    number_is_encoded 4 (length values) fits,
    each_stand P f Fits law values all,
  ),
)
