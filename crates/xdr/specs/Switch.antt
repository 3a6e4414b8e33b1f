-- A union (RFC 4506, section 4.15): a tag, and then the content that the tag calls for. Cases describe the content by
-- the tag, for reading, and arms describe it by the union's value, for writing.
use Rattle.std.specs.Prelude.{◌≡◌, ℕ, List, ◌++◌, Ok, Err}
use Rattle.std.proofs.Common.{refl}
use Rattle.xdr.specs.declared.wire_error.WireError.TheVariants as errors
use Rattle.xdr.specs.Reading.{Read, as_value}
use Rattle.xdr.specs.Form.{Form}

-- What a tag calls for: content of some form, from which the union's value is made, or nothing, because the union has
-- no such tag.
pub data Case (V : Type 0) : Type 1 where
  case : {Content : Type 0} → Form Content → (Content → V) → Case V
  no_case : Case V

abbrev pub case_at : {V : Type 0} → Case V → List ℕ → Read V
case_at (case form make) bytes = as_value make form.at bytes
case_at no_case bytes = Err errors.Short

-- A value of the union, and how the bytes after its tag are read and written.
pub record Arm (V : Type 0) : Type 1 where
  pub value : V
  pub layout : List ℕ → Type 0
  pub at : List ℕ → Read V
  pub encoding : List ℕ
  pub Fits : Type 0
  pub complete : (front rest : List ℕ) → layout front → at (front ++ rest) ≡ Ok (value, rest)
  pub encodes : Fits → layout encoding

abbrev pub arm : {A V : Type 0} → Form A → (A → V) → A → Arm V
arm form make content = record {
  value = make content;
  layout = form.layout content;
  at = as_value make form.at;
  encoding = form.encoding content;
  Fits = form.Fits content;
  complete = λ front rest h. rw (form.reads.complete content front rest h) refl;
  encodes = form.encodes content;
}

-- The type of content that a case makes values from, and the arm of such a value.
abbrev pub Content : {V : Type 0} → Case V → Type 0
Content (case {Content = A} form make) = A
Content no_case = ⊥

abbrev pub arm_in : {V : Type 0} (found : Case V) → Content found → Arm V
arm_in (case form make) content = arm form make content
arm_in no_case content = absurd content

-- The values that each case makes have its tag, and are written as the case describes.
abbrev pub Agrees : {K V : Type 0} → (V → K) → (V → Arm V) → K → Case V → Type 1
Agrees tag_of arm_of tag (case {Content = A} form make) =
    (content : A) → (tag_of (make content) ≡ tag) × (arm_of (make content) ≡ arm form make content)
Agrees tag_of arm_of tag no_case = Unit {1}

-- A value is read by the case of its own tag.
pub record IsRead {K V : Type 0} (cases : K → Case V) (tag_of : V → K) (arm_of : V → Arm V)
    (value : V) : Type 0 where
  pub is : (arm_of value).value ≡ value
  pub reads : (bytes : List ℕ) → case_at (cases (tag_of value)) bytes ≡ (arm_of value).at bytes
