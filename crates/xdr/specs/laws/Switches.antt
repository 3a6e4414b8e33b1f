-- What the cases of a union read matches the layout of its value, and what matches that layout is read.
use Rattle.std.proofs.Common.{◌≡◌, ℕ, List, ◌++◌, Ok, refl, sym, ap, subst, ◌∙◌, append_assoc}
use Rattle.xdr.specs.Layout.{◌⨾◌}
use Rattle.xdr.specs.Reading.{Reads, Begins, ◌>>=◌}
use Rattle.xdr.specs.Form.{Form}
use Rattle.xdr.specs.Switch.{Case, case, no_case, Arm, case_at, Agrees, IsRead}
use Rattle.xdr.specs.laws.Reads.{bind_ok, Begins-then, as_value_gives}

-- the bytes begin with the content of the value's arm, and the value has this tag
abbrev Found : {K V : Type 0} → (V → K) → (V → Arm V) → K → List ℕ → V × List ℕ → Type 0
Found tag_of arm_of tag bytes y = (tag_of y.0 ≡ tag) × Begins (arm_of y.0).layout bytes y.1

case_sound : {K V : Type 0} (tag_of : V → K) (arm_of : V → Arm V) (tag : K) (found : Case V)
    → Agrees tag_of arm_of tag found → (bytes : List ℕ) (y : V × List ℕ)
    → case_at found bytes ≡ Ok y → Found tag_of arm_of tag bytes y
case_sound {V = V} tag_of arm_of tag (case form make) agrees bytes y e =
    as_value_gives form.at make (Found tag_of arm_of tag bytes) bytes
    (λ x f. let a = agrees x.0 in
    (a.0, subst (λ (arm : Arm V). Begins arm.layout bytes x.1) (sym a.1) (form.reads.sound bytes x.0 x.1 f))) y e
case_sound tag_of arm_of tag no_case agrees bytes y e = absurd cc

pub reads_switch :
    {K V : Type 0} (tag : Form K) (cases : K → Case V) (tag_of : V → K) (arm_of : V → Arm V)
    → ((k : K) → Agrees tag_of arm_of k (cases k))
    → ((value : V) → IsRead cases tag_of arm_of value)
    → Reads (λ (value : V). tag.layout (tag_of value) ⨾ (arm_of value).layout)
    (λ bytes. tag.at bytes >>= λ k. case_at (cases k.0) k.1)
reads_switch {K = K} {V = V} tag cases tag_of arm_of agree is_read = record {
  sound = λ bytes value rest e.
      let k = bind_ok (tag.at bytes) (λ k. case_at (cases k.0) k.1) (value, rest) e in
      let found = case_sound tag_of arm_of k.0.0 (cases k.0.0) (agree k.0.0) k.0.1 (value, rest) k.2 in
      let head = tag.reads.sound bytes k.0.0 k.0.1 k.1 in
      Begins-then (tag.layout (tag_of value)) (arm_of value).layout bytes k.0.1 rest
      (subst (λ (t : K). Begins (tag.layout t) bytes k.0.1) (sym found.0) head) found.1;
  complete = λ value front rest h.
      let regrouped : front ++ rest ≡ h.0 ++ (h.1 ++ rest) =
      ap (λ (x : List ℕ). x ++ rest) h.2 ∙ append_assoc h.0 h.1 rest in
      let head : tag.at (front ++ rest) ≡ Ok (tag_of value, h.1 ++ rest) =
      ap tag.at regrouped ∙ tag.reads.complete (tag_of value) h.0 (h.1 ++ rest) h.3 in
      let here : case_at (cases (tag_of value)) (h.1 ++ rest) ≡ Ok ((arm_of value).value, rest) =
      (is_read value).reads (h.1 ++ rest) ∙ (arm_of value).complete h.1 rest h.4 in
      rw head (here ∙ ap (λ (v : V). Ok (v, rest)) (is_read value).is);
}

pub switch_is_encoded : {K V : Type 0} (tag : Form K) (tag_of : V → K) (arm_of : V → Arm V) (value : V)
    → tag.Fits (tag_of value) → (arm_of value).Fits
    → (tag.layout (tag_of value) ⨾ (arm_of value).layout) (tag.encoding (tag_of value) ++ (arm_of value).encoding)
switch_is_encoded tag tag_of arm_of value small fits = (
  tag.encoding (tag_of value),
  (arm_of value).encoding,
  refl,
  tag.encodes (tag_of value) small,
  (arm_of value).encodes fits,
)
