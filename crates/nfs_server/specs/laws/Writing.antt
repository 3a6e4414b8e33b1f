-- Writes that follow each other.
use Rattle.std.proofs.Common.{◌≡◌, ◌≢◌, ℕ, List, [], ◌∷◌, ◌++◌, take, drop, refl, sym, ap, subst, ◌∙◌, append_assoc}
use Rattle.std.specs.List.{flat_map}
use Rattle.std.proofs.lemmas.List.{append-nil, take-append-drop}
use Rattle.std.proofs.lemmas.List.Concat.{flat_map-cons}
use Rattle.std.proofs.lemmas.Grind.{flat_map-append}
use Rattle.nfs_server.specs.Device.{Device, AreTaken, IsCut, IsWritten}

taken_then : {D : Type 0} (device : Device D) (a b c : D) (parts others : List (List ℕ))
    → AreTaken device a parts b → AreTaken device b others c → AreTaken device a (parts ++ others) c
taken_then {D = D} device a b c [] others first second = subst (λ (x : D). AreTaken device x others c) first second
taken_then device a b c (part ∷ parts) others first second =
    (first.0, first.1, taken_then device first.0 b c parts others first.2 second)

pub written_nothing : {D : Type 0} (device : Device D) (a : D) → IsWritten device a [] a
written_nothing device a = ([], refl, refl)

pub written_then : {D : Type 0} (device : Device D) (a b c : D) (bytes more : List ℕ)
    → IsWritten device a bytes b → IsWritten device b more c → IsWritten device a (bytes ++ more) c
written_then device a b c bytes more first second = (
  first.0 ++ second.0,
  ap (λ (x : List ℕ). x ++ more) first.1 ∙ ap (λ (x : List ℕ). flat_map (λ part. part) first.0 ++ x) second.1
      ∙ sym (flat_map-append (λ (part : List ℕ). part) first.0 second.0),
  taken_then device a b c first.0 second.0 first.2 second.2,
)

-- bytes that were written whole, and one more write after them
pub written_more : {D : Type 0} (device : Device D) (a b c : D) (bytes part : List ℕ)
    → IsWritten device a bytes b → device.takes b part c → IsWritten device a (bytes ++ part) c
written_more device a b c bytes part first takes =
    let one : IsWritten device b part c = (
      part ∷ [],
      sym (append-nil part)
          ∙ ap (λ (x : List ℕ). part ++ x) refl ∙ sym (flat_map-cons (λ (p : List ℕ). p) part []),
      (c, takes, refl),
    ) in
    written_then device a b c bytes part first one

-- bytes were written, and then a write failed within more bytes
pub cut_after : {D : Type 0} (device : Device D) (a b c : D) (bytes more : List ℕ)
    → IsWritten device a bytes b → IsCut device b more c → IsCut device a (bytes ++ more) c
cut_after device a b c bytes more first cut = (
  bytes ++ cut.0,
  cut.1,
  cut.2,
  ap (λ (x : List ℕ). bytes ++ x) cut.3 ∙ sym (append_assoc bytes cut.0 cut.1),
  cut.4,
  written_then device a b cut.2 bytes cut.0 first cut.5,
  cut.6,
)

-- which of the bytes were written after one more write
pub goes_out : {D : Type 0} (device : Device D) (a b c : D) (bytes rest : List ℕ) (n : ℕ)
    → (front : List ℕ) × (bytes ≡ front ++ rest) × IsWritten device a front b → device.takes b (take n rest) c
    → (front : List ℕ) × (bytes ≡ front ++ drop n rest) × IsWritten device a front c
goes_out device a b c bytes rest n so_far more = (
  so_far.0 ++ take n rest,
  so_far.1 ∙ ap (λ (x : List ℕ). so_far.0 ++ x) (sym (take-append-drop n rest))
      ∙ sym (append_assoc so_far.0 (take n rest) (drop n rest)),
  written_more device a b c so_far.0 (take n rest) so_far.2 more,
)

some_of_both : (back more : List ℕ) → back ≢ [] → back ++ more ≢ []
some_of_both [] more some none = some refl
some_of_both (byte ∷ bytes) more some none = absurd cc

-- what was cut is cut as the beginning of more
pub cut_before : {D : Type 0} (device : Device D) (a c : D) (bytes more : List ℕ)
    → IsCut device a bytes c → IsCut device a (bytes ++ more) c
cut_before device a c bytes more cut = (
  cut.0,
  cut.1 ++ more,
  cut.2,
  ap (λ (x : List ℕ). x ++ more) cut.3 ∙ append_assoc cut.0 cut.1 more,
  some_of_both cut.1 more cut.4,
  cut.5,
  cut.6,
)
