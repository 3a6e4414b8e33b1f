-- What the reading functions of the basic forms read matches their layouts, and what matches these layouts is read.
use Rattle.std.proofs.Common.{◌≡◌, ℕ, ◌+◌, ◌≤◌, Bool, true, false, cond, ltb, eqb, List, [], ◌++◌, length, take, drop, Result, Ok, Err, refl, sym, ap, subst, ◌∙◌, append_assoc, arith, inl, inr, ◌⊎◌}
use Rattle.std.proofs.lemmas.Bool.{ltb-false, le-ltb, eqb-true, eq-eqb}
use Rattle.std.proofs.lemmas.List.{take_at, drop_at, take-append-drop, length-append, length-take, length-drop, drop-drop}
use Rattle.byteorder.specs.Endian.{big_number}
use Rattle.byteorder.specs.Numbers.{big_from-take, big_from-append}
use Rattle.xdr.specs.declared.wire_error.WireError.{WireError}
use Rattle.xdr.specs.declared.wire_error.WireError.TheVariants as errors
use Rattle.xdr.specs.Layout.{◌⨾◌, Nothing, Number, U32, Flag, Fixed, Opaque, Any, padding_of}
use Rattle.xdr.specs.Reading.{Read, Reads, Begins, ◌>>=◌, ◌then◌, as_value, number_at, flag_of, flag_at, fixed_at, padded_at, opaque_at, constant_at}

-- a boolean is true or false
pub true_or_false : (b : Bool) → (b ≡ true) ⊎ (b ≡ false)
true_or_false true = inl refl
true_or_false false = inr refl

-- if two steps in a row succeed, the first one gave a value with which the second one succeeded
pub bind_ok : {A B : Type 0} (r : Result A WireError) (f : A → Result B WireError) (y : B)
    → (r >>= f) ≡ Ok y → (x : A) × (r ≡ Ok x) × (f x ≡ Ok y)
bind_ok (Ok x) f y e = (x, refl, e)
bind_ok (Err d) f y e = absurd cc

abbrev done : {A : Type 0} → A → Result A WireError
done x = Ok x

pub ok_is : {A : Type 0} (x y : A) → done x ≡ done y → x ≡ y
ok_is x y e = cc

-- if `cond b (Err d) r` succeeds, the test `b` was false and `r` succeeded
pub guard_ok : {A : Type 0} (b : Bool) (d : WireError) (r : Result A WireError) (y : A)
    → cond b (Err d) r ≡ Ok y → (b ≡ false) × (r ≡ Ok y)
guard_ok true d r y e = absurd cc
guard_ok false d r y e = (refl, e)

-- if `cond b r (Err d)` succeeds, the test `b` was true and `r` succeeded
pub wanted_ok : {A : Type 0} (b : Bool) (d : WireError) (r : Result A WireError) (y : A)
    → cond b r (Err d) ≡ Ok y → (b ≡ true) × (r ≡ Ok y)
wanted_ok true d r y e = (refl, e)
wanted_ok false d r y e = absurd cc

pub Begins-then : (P Q : List ℕ → Type 0) (bytes mid rest : List ℕ) → Begins P bytes mid
    → Begins Q mid rest → Begins (P ⨾ Q) bytes rest
Begins-then P Q bytes mid rest p q =
    (p.0 ++ q.0, p.1 ∙ ap (λ (x : List ℕ). p.0 ++ x) q.1 ∙ sym (append_assoc p.0 q.0 rest), (p.0, q.0, refl, p.2, q.2))

pub reads_then : {A B : Type 0} (P : A → List ℕ → Type 0) (Q : B → List ℕ → Type 0) (f : List ℕ → Read A)
    (g : List ℕ → Read B) → Reads P f → Reads Q g → Reads (λ (p : A × B). P p.0 ⨾ Q p.1) (f then g)
reads_then {A = A} {B = B} P Q f g p q = record {
  sound = λ bytes value rest e.
      let a = bind_ok (f bytes) (λ a. g a.1 >>= λ b. Ok ((a.0, b.0), b.1)) (value, rest) e in
      let b = bind_ok (g a.0.1) (λ b. Ok ((a.0.0, b.0), b.1)) (value, rest) a.2 in
      let both =
      Begins-then (P a.0.0) (Q b.0.0) bytes a.0.1 b.0.1
      (p.sound bytes a.0.0 a.0.1 a.1) (q.sound a.0.1 b.0.0 b.0.1 b.1) in
      subst (λ (x : (A × B) × List ℕ). Begins (P x.0.0 ⨾ Q x.0.1) bytes x.1)
      (ok_is ((a.0.0, b.0.0), b.0.1) (value, rest) b.2) both;
  complete = λ value front rest h.
      let regrouped : front ++ rest ≡ h.0 ++ (h.1 ++ rest) =
      ap (λ (x : List ℕ). x ++ rest) h.2 ∙ append_assoc h.0 h.1 rest in
      ap (f then g) regrouped ∙ rw (p.complete value.0 h.0 (h.1 ++ rest) h.3, q.complete value.1 h.1 rest h.4) refl;
}

-- of two layouts in a row the first is read, and the second is left
pub reads_first : {A : Type 0} (P : A → List ℕ → Type 0) (f : List ℕ → Read A) → Reads P f
    → (value : A) (Q : List ℕ → Type 0) (bytes rest : List ℕ) (h : (P value ⨾ Q) bytes)
    → f (bytes ++ rest) ≡ Ok (value, h.1 ++ rest)
reads_first P f p value Q bytes rest h =
    ap f (ap (λ (x : List ℕ). x ++ rest) h.2 ∙ append_assoc h.0 h.1 rest) ∙ p.complete value h.0 (h.1 ++ rest) h.3

-- a property of each value that is read, once it is made into another, also holds for what `as_value` gives
pub as_value_gives :
    {A B : Type 0} (f : List ℕ → Read A) (make : A → B) (M : B × List ℕ → Type 0) (bytes : List ℕ)
    → ((x : A × List ℕ) → f bytes ≡ Ok x → M (make x.0, x.1)) → (y : B × List ℕ)
    → as_value make f bytes ≡ Ok y → M y
as_value_gives f make M bytes each y e =
    let a = bind_ok (f bytes) (λ a. Ok (make a.0, a.1)) y e in
    subst M (ok_is (make a.0.0, a.0.1) y a.2) (each a.0 a.1)

-- if reading fails, no beginning of the bytes matches the layout
pub lacks : {A : Type 0} (layout : A → List ℕ → Type 0) (read : List ℕ → Read A) → Reads layout read
    → (bytes : List ℕ) (e : WireError) → read bytes ≡ Err e → (value : A) (rest : List ℕ)
    → Begins (layout value) bytes rest → ⊥
lacks {A = A} layout read reads bytes e failed value rest found =
    let given : read bytes ≡ Ok (value, rest) = ap read found.1 ∙ reads.complete value found.0 rest found.2 in
    let clash : ◌≡◌ {A = Read A} (Err e) (Ok (value, rest)) = sym failed ∙ given in
    cc

-- the layout of a record is that of its fields, if `make` and `fields` are each other's inverse
pub reads_as :
    {A B : Type 0} (P : A → List ℕ → Type 0) (f : List ℕ → Read A) (make : A → B) (fields : B → A)
    → ((a : A) → fields (make a) ≡ a) → ((b : B) → make (fields b) ≡ b) → Reads P f
    → Reads (λ (b : B). P (fields b)) (as_value make f)
reads_as {A = A} {B = B} P f make fields back again p = record {
  sound = λ bytes value rest e.
      let a = bind_ok (f bytes) (λ a. Ok (make a.0, a.1)) (value, rest) e in
      let found : Begins (P (fields (make a.0.0))) bytes a.0.1 = rw back (p.sound bytes a.0.0 a.0.1 a.1) in
      subst (λ (x : B × List ℕ). Begins (P (fields x.0)) bytes x.1) (ok_is (make a.0.0, a.0.1) (value, rest) a.2) found;
  complete =
      λ value front rest h. rw (p.complete (fields value) front rest h) (ap (λ (b : B). Ok (b, rest)) (again value));
}

pub reads_nothing : Reads {A = Unit {0}} (λ v. Nothing) (λ bytes. Ok (tt, bytes))
reads_nothing = record {
  sound = λ bytes value rest e.
      let same = ok_is (tt, bytes) (value, rest) e in
      ([], ap (λ (x : Unit {0} × List ℕ). x.1) same, refl);
  complete = λ value front rest h. rw h refl;
}

pub reads_number : (count : ℕ) → Reads (Number count) (number_at count)
unfolding number_at
reads_number count = record {
  sound = λ bytes value rest e.
      let g = guard_ok (ltb (length bytes) count) errors.Short
      (Ok (big_number count bytes, drop count bytes)) (value, rest) e in
      let long : count ≤ length bytes = ltb-false _ _ g.0 in
      let front : Begins (Number count (big_number count bytes)) bytes (drop count bytes) = (
        take count bytes,
        sym (take-append-drop count bytes),
        (omega (arith, length-take count bytes), big_from-take 0 count count bytes (omega arith)),
      ) in
      subst (λ (x : ℕ × List ℕ). Begins (Number count x.0) bytes x.1)
      (ok_is (big_number count bytes, drop count bytes) (value, rest) g.1) front;
  complete = λ value front rest h.
      let long : ltb (length (front ++ rest)) count ≡ false =
      le-ltb _ _ (omega (arith, length-append front rest, h.0)) in
      let number : big_number count (front ++ rest) ≡ value =
      big_from-append count front rest (omega (arith, h.0)) ∙ h.1 in
      rw (long, number, drop_at front rest count h.0) refl;
}

pub reads_fixed : (count : ℕ) → Reads (Fixed count) (fixed_at count)
unfolding fixed_at
reads_fixed count = record {
  sound = λ bytes value rest e.
      let g =
      guard_ok (ltb (length bytes) count) errors.Short (Ok (take count bytes, drop count bytes)) (value, rest) e in
      let long : count ≤ length bytes = ltb-false _ _ g.0 in
      let front : Begins (Fixed count (take count bytes)) bytes (drop count bytes) =
      (take count bytes, sym (take-append-drop count bytes), (omega (arith, length-take count bytes), refl)) in
      subst (λ (x : List ℕ × List ℕ). Begins (Fixed count x.0) bytes x.1)
      (ok_is (take count bytes, drop count bytes) (value, rest) g.1) front;
  complete = λ value front rest h.
      let len : length front ≡ count = ap length h.1 ∙ h.0 in
      let long : ltb (length (front ++ rest)) count ≡ false = le-ltb _ _ (omega (arith, length-append front rest)) in
      rw (long, take_at front rest count len, drop_at front rest count len) (ap (λ (v : List ℕ). Ok (v, rest)) h.1);
}

-- the bytes of an opaque, followed by its padding
padded_begins : (count : ℕ) (bytes : List ℕ) → count + padding_of count ≤ length bytes
    → Begins (Fixed count (take count bytes) ⨾ Any (padding_of count)) bytes (drop (count + padding_of count) bytes)
padded_begins count bytes long =
    let first : Begins (Fixed count (take count bytes)) bytes (drop count bytes) =
    (take count bytes, sym (take-append-drop count bytes), (omega (arith, length-take count bytes), refl)) in
    let pad = padding_of count in
    let second : Begins (Any pad) (drop count bytes) (drop pad (drop count bytes)) = (
      take pad (drop count bytes),
      sym (take-append-drop pad (drop count bytes)),
      omega (arith, length-take pad (drop count bytes), length-drop count bytes),
    ) in
    let same : drop pad (drop count bytes) ≡ drop (count + pad) bytes = drop-drop pad count bytes in
    rw (← same)
    (Begins-then (Fixed count (take count bytes)) (Any pad) bytes (drop count bytes) (drop pad (drop count bytes))
    first second)

pub reads_opaque : (limit : ℕ) → Reads (Opaque limit) (opaque_at limit)
unfolding opaque_at
reads_opaque limit = record {
  sound = λ bytes value rest e.
      let n = bind_ok (number_at 4 bytes)
      (λ n. cond (ltb limit n.0) (Err errors.TooLong) (padded_at n.0 n.1)) (value, rest) e in
      let count = n.0.0 in
      let g = guard_ok (ltb limit count) errors.TooLong (padded_at count n.0.1) (value, rest) n.2 in
      let within : count ≤ limit = ltb-false _ _ g.0 in
      let k = guard_ok (ltb (length n.0.1) (count + padding_of count)) errors.Short
      (Ok (take count n.0.1, drop (count + padding_of count) n.0.1)) (value, rest) g.1 in
      let long : count + padding_of count ≤ length n.0.1 = ltb-false _ _ k.0 in
      let len : length (take count n.0.1) ≡ count = omega (arith, length-take count n.0.1) in
      let header = (reads_number 4).sound bytes count n.0.1 n.1 in
      let beyond = padded_begins count n.0.1 long in
      let all = Begins-then (U32 count) (Fixed count (take count n.0.1) ⨾ Any (padding_of count)) bytes n.0.1
      (drop (count + padding_of count) n.0.1) header beyond in
      let encodes : Begins (Opaque limit (take count n.0.1)) bytes (drop (count + padding_of count) n.0.1) = (
        all.0,
        all.1,
        (
          omega arith,
          subst (λ (c : ℕ). (U32 c ⨾ Fixed c (take count n.0.1) ⨾ Any (padding_of c)) all.0) (sym len) all.2,
        ),
      ) in
      subst (λ (x : List ℕ × List ℕ). Begins (Opaque limit x.0) bytes x.1)
      (ok_is (take count n.0.1, drop (count + padding_of count) n.0.1) (value, rest) k.1) encodes;
  complete = λ value front rest h.
      let count = length value in
      let head = h.1.0 in
      let tail = h.1.1 in
      let body = h.1.4.0 in
      let pad = h.1.4.1 in
      let regrouped : front ++ rest ≡ head ++ (tail ++ rest) =
      ap (λ (x : List ℕ). x ++ rest) h.1.2 ∙ append_assoc head tail rest in
      let number : number_at 4 (front ++ rest) ≡ Ok (count, tail ++ rest) =
      ap (number_at 4) regrouped ∙ (reads_number 4).complete count head (tail ++ rest) h.1.3 in
      let tail_is : tail ++ rest ≡ value ++ (pad ++ rest) =
      ap (λ (x : List ℕ). x ++ rest) h.1.4.2
      ∙ append_assoc body pad rest
      ∙ ap (λ (x : List ℕ). x ++ (pad ++ rest)) h.1.4.3.1 in
      let within : ltb limit count ≡ false = le-ltb _ _ h.0 in
      let pad_len : length pad ≡ padding_of count = h.1.4.4 in
      let long : ltb (length (value ++ (pad ++ rest))) (count + padding_of count) ≡ false =
      le-ltb _ _ (omega (arith, length-append value (pad ++ rest), length-append pad rest)) in
      let first : take count (value ++ (pad ++ rest)) ≡ value = take_at value (pad ++ rest) count refl in
      let second : drop (count + padding_of count) (value ++ (pad ++ rest)) ≡ rest =
      sym (drop-drop (padding_of count) count (value ++ (pad ++ rest)))
      ∙ ap (drop (padding_of count)) (drop_at value (pad ++ rest) count refl)
      ∙ drop_at pad rest (padding_of count) pad_len in
      rw (number, within, tail_is, long, first, second) refl;
}

pub reads_constant : (n : ℕ) → Reads (λ (v : Unit {0}). U32 n) (constant_at n)
unfolding constant_at
reads_constant n = record {
  sound = λ bytes value rest e.
      let k = bind_ok (number_at 4 bytes) (λ k. cond (eqb k.0 n) (Ok (tt, k.1)) (Err errors.Short)) (value, rest) e in
      let same = wanted_ok (eqb k.0.0 n) errors.Short (Ok (tt, k.0.1)) (value, rest) k.2 in
      let number = (reads_number 4).sound bytes k.0.0 k.0.1 k.1 in
      let rest_is : k.0.1 ≡ rest = ap (λ (x : Unit {0} × List ℕ). x.1) (ok_is (tt, k.0.1) (value, rest) same.1) in (
        number.0,
        number.1 ∙ ap (λ (x : List ℕ). number.0 ++ x) rest_is,
        subst (λ (m : ℕ). U32 m number.0) (eqb-true k.0.0 n same.0) number.2,
      );
  complete = λ value front rest h. rw ((reads_number 4).complete n front rest h, eq-eqb n n refl) refl;
}

flag_is_encoded : (n : ℕ) (front mid : List ℕ) (y : Bool × List ℕ) → U32 n front
    → flag_of n mid ≡ Ok y → Flag y.0 front × (mid ≡ y.1)
flag_is_encoded n front mid y number e =
    elim (true_or_false (eqb n 0)) [
      | inl zeroth ↦
          let same : (false, mid) ≡ y = ok_is (false, mid) y (rw zeroth at e) in
          subst (λ (x : Bool × List ℕ). Flag x.0 front × (mid ≡ x.1)) same
          (subst (λ (k : ℕ). U32 k front) (eqb-true n 0 zeroth) number, refl)
      | inr other ↦
          let one = wanted_ok (eqb n 1) errors.Short (Ok (true, mid)) y (rw other at e) in
          let same : (true, mid) ≡ y = ok_is (true, mid) y one.1 in
          subst (λ (x : Bool × List ℕ). Flag x.0 front × (mid ≡ x.1)) same
          (subst (λ (k : ℕ). U32 k front) (eqb-true n 1 one.0) number, refl)
    ]

flag_complete : (b : Bool) (front rest : List ℕ) → Flag b front
    → flag_at (front ++ rest) ≡ Ok (b, rest)
unfolding flag_at
flag_complete true front rest h = rw ((reads_number 4).complete 1 front rest h) refl
flag_complete false front rest h = rw ((reads_number 4).complete 0 front rest h) refl

pub reads_flag : Reads Flag flag_at
unfolding flag_at
reads_flag = record {
  sound = λ bytes value rest e.
      let n = bind_ok (number_at 4 bytes) (λ n. flag_of n.0 n.1) (value, rest) e in
      let number = (reads_number 4).sound bytes n.0.0 n.0.1 n.1 in
      let flag = flag_is_encoded n.0.0 number.0 n.0.1 (value, rest) number.2 n.2 in
      (number.0, number.1 ∙ ap (λ (x : List ℕ). number.0 ++ x) flag.1, flag.0);
  complete = flag_complete;
}

-- Reading a list takes no memory, and so never runs out of it.
abbrev pub NeverMemory : {A : Type 0} → (List ℕ → Read A) → Type 0
NeverMemory f = (bytes : List ℕ) → f bytes ≡ Err errors.Memory → ⊥

pub number_never_memory : (count : ℕ) → NeverMemory (number_at count)
unfolding number_at
number_never_memory count bytes e =
    elim (true_or_false (ltb (length bytes) count)) [
      | inl short ↦ let clash : ◌≡◌ {A = Read ℕ} (Err errors.Short) (Err errors.Memory) = rw short at e in cc
      | inr long ↦ let clash : ◌≡◌ {A = Read ℕ} (Ok (big_number count bytes, drop count bytes)) (Err errors.Memory) =
          rw long at e in cc
    ]

padded_never_memory : (count : ℕ) (bytes : List ℕ) → padded_at count bytes ≡ Err errors.Memory → ⊥
padded_never_memory count bytes e =
    elim (true_or_false (ltb (length bytes) (count + padding_of count))) [
      | inl short ↦ let clash : ◌≡◌ {A = Read (List ℕ)} (Err errors.Short) (Err errors.Memory) = rw short at e in cc
      | inr long ↦ let clash : ◌≡◌ {A = Read (List ℕ)}
          (Ok (take count bytes, drop (count + padding_of count) bytes)) (Err errors.Memory) = rw long at e in cc
    ]

-- reading an opaque fails only because the bytes end too soon or the length is above its limit
pub opaque_never_memory : (limit : ℕ) → NeverMemory (opaque_at limit)
unfolding opaque_at number_at
opaque_never_memory limit bytes e =
    elim (true_or_false (ltb (length bytes) 4)) [
      | inl short ↦ let clash : ◌≡◌ {A = Read (List ℕ)} (Err errors.Short) (Err errors.Memory) = rw short at e in cc
      | inr long ↦ elim (true_or_false (ltb limit (big_number 4 bytes))) [
        | inl above ↦ let clash : ◌≡◌ {A = Read (List ℕ)} (Err errors.TooLong) (Err errors.Memory) =
            rw (long, above) at e in cc
        | inr within ↦
            let padded : padded_at (big_number 4 bytes) (drop 4 bytes) ≡ Err errors.Memory = rw (long, within) at e in
            padded_never_memory (big_number 4 bytes) (drop 4 bytes) padded
      ]
    ]

abbrev paired : {A B : Type 0} → A → B × List ℕ → Read (A × B)
paired a b = Ok ((a, b.0), b.1)

pair_of : {A B : Type 0} (a : A) (r : Read B) → (r ≡ Err errors.Memory → ⊥)
    → (r >>= paired a) ≡ Err errors.Memory → ⊥
pair_of a (Ok b) never e = cc
pair_of a (Err d) never e = let same : d ≡ errors.Memory = cc in never (rw same refl)

then_of : {A B : Type 0} (g : List ℕ → Read B) (r : Read A) → (r ≡ Err errors.Memory → ⊥)
    → NeverMemory g → (r >>= λ a. g a.1 >>= paired a.0) ≡ Err errors.Memory → ⊥
then_of g (Err d) first second e = let same : d ≡ errors.Memory = cc in first (rw same refl)
then_of g (Ok a) first second e = pair_of a.0 (g a.1) (second a.1) e

pub then_never_memory : {A B : Type 0} (f : List ℕ → Read A) (g : List ℕ → Read B) → NeverMemory f
    → NeverMemory g → NeverMemory (f then g)
then_never_memory f g first second bytes e = then_of g (f bytes) (first bytes) second e

pub opaque_tells :
    {X : Type 0} (limit : ℕ) (bytes : List ℕ) (r : Result X WireError) (e : WireError) → r ≡ Err e
    → opaque_at limit bytes ≡ Err e → r ≡ Err errors.Memory → ⊥
opaque_tells limit bytes r e is told memory =
    let same : e ≡ errors.Memory = cc in
    opaque_never_memory limit bytes (rw same at told)
