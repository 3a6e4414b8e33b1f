-- Values of which all of the bytes are the one encoding, with zero padding.
use Rattle.std.specs.Prelude.{◌≡◌, ℕ, List, Result, Ok, Err}
use Rattle.xdr.specs.declared.wire_error.WireError.{WireError}
use Rattle.xdr.specs.declared.wire_error.WireError.TheVariants as errors
use Rattle.xdr.specs.Form.{Form}

-- the bytes are the encoding of the value, which fits its form
abbrev pub IsEncoded : {A : Type 0} → Form A → A → List ℕ → Type 0
IsEncoded f value bytes = f.Fits value × (bytes ≡ f.encoding value)

-- the bytes are the encoding of no value
abbrev pub EncodesNothing : {A : Type 0} → Form A → List ℕ → Type 0
EncodesNothing {A = A} f bytes = (value : A) → IsEncoded f value bytes → ⊥

-- What a function returned is the value that the bytes encode, or an error if there is none, unless the function ran
-- out of memory.
abbrev pub IsExactly : {A : Type 0} → Form A → Result A WireError → List ℕ → Type 0
IsExactly f (Ok value) bytes = IsEncoded f value bytes
IsExactly f (Err errors.Memory) bytes = Unit {0}
IsExactly f (Err errors.Short) bytes = EncodesNothing f bytes
IsExactly f (Err errors.TooLong) bytes = EncodesNothing f bytes
