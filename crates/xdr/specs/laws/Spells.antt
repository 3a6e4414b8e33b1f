-- The one encoding of a value matches its layout.
use Rattle.std.proofs.Common.{◌≡◌, ℕ, ◌^◌, ◌<◌, ◌≤◌, Bool, true, false, List, [], ◌∷◌, ◌++◌, length, refl, sym, ap, ◌∙◌, arith}
use Rattle.std.proofs.lemmas.List.{append-nil, length-take}
use Rattle.byteorder.specs.Endian.{big_number, big_bytes}
use Rattle.byteorder.specs.Numbers.{big_number-reads_back, length-bytes_high_first}
use Rattle.xdr.specs.Layout.{◌⨾◌, Nothing, Number, Flag, Fixed, Opaque, padding_of}
use Rattle.xdr.specs.Writing.{written_number, written_u32, written_flag, written_opaque, zeros}

pub nothing_is_encoded : (value : Unit {0}) → Unit {0} → Nothing []
nothing_is_encoded value fits = refl

pub number_is_encoded : (count n : ℕ) → n < 256 ^ count → Number count n (written_number count n)
unfolding written_number
number_is_encoded count n fits = (
  length-bytes_high_first count n,
  ap (big_number count) (sym (append-nil (big_bytes count n))) ∙ big_number-reads_back count n [] fits,
)

pub flag_is_encoded : (b : Bool) → Flag b (written_flag b)
flag_is_encoded true = number_is_encoded 4 1 (omega arith)
flag_is_encoded false = number_is_encoded 4 0 (omega arith)

pub fixed_is_encoded : (count : ℕ) (bytes : List ℕ) → length bytes ≡ count → Fixed count bytes bytes
fixed_is_encoded count bytes fits = (fits, refl)

length-zeros : (n : ℕ) → n < 4 → length (zeros n) ≡ n
length-zeros n few = omega (arith, length-take {A = ℕ} n (0 ∷ 0 ∷ 0 ∷ 0 ∷ []))

pub opaque_is_encoded : (limit : ℕ) (bytes : List ℕ) → length bytes ≤ limit → length bytes < 2 ^ 32
    → Opaque limit bytes (written_opaque bytes)
unfolding written_opaque
opaque_is_encoded limit bytes within fits =
    let pad = padding_of (length bytes) in (
      within,
      (
        written_u32 (length bytes),
        bytes ++ zeros pad,
        refl,
        number_is_encoded 4 (length bytes) fits,
        (bytes, zeros pad, refl, (refl, refl), length-zeros pad (omega arith)),
      ),
    )

pub both_are_encoded : {A B : Type 0} (P : A → List ℕ → Type 0) (Q : B → List ℕ → Type 0)
    (f : A → List ℕ) (g : B → List ℕ) (FFits : A → Type 0) (GFits : B → Type 0)
    → ((a : A) → FFits a → P a (f a)) → ((b : B) → GFits b → Q b (g b))
    → (p : A × B) → FFits p.0 × GFits p.1 → (P p.0 ⨾ Q p.1) (f p.0 ++ g p.1)
both_are_encoded P Q f g FFits GFits first second p fits = (f p.0, g p.1, refl, first p.0 fits.0, second p.1 fits.1)
