-- The one encoding of a value, in which all padding is zero.
use Rattle.std.specs.Prelude.{◌≡◌, ℕ, ◌+◌, ◌<◌, ◌≤◌, List, [], ◌∷◌, ◌++◌, Bool, true, false, length, take, if◌then◌else◌, Result, vec_len, vec_capacity, OnOk, OnErr, IsErrOf}
use Rattle.std.specs.Global.{Vec}
use Rattle.std.specs.List.{flat_map}
use Rattle.xdr.specs.declared.wire_error.WireError.{WireError}
use Rattle.xdr.specs.declared.wire_error.WireError.TheVariants as errors
use Rattle.byteorder.specs.Endian.{big_bytes}
use Rattle.xdr.specs.Layout.{padding_of}

-- a number in `count` bytes, high byte first
unfoldable pub written_number : ℕ → ℕ → List ℕ
written_number count n = big_bytes count n

abbrev pub written_u32 : ℕ → List ℕ
written_u32 = written_number 4

abbrev pub written_u64 : ℕ → List ℕ
written_u64 = written_number 8

abbrev pub written_flag : Bool → List ℕ
written_flag b = written_u32 (if b then 1 else 0)

abbrev pub zeros : ℕ → List ℕ
zeros n = take n (0 ∷ 0 ∷ 0 ∷ 0 ∷ [])

unfoldable pub written_opaque : List ℕ → List ℕ
written_opaque bytes = written_u32 (length bytes) ++ (bytes ++ zeros (padding_of (length bytes)))

-- a count, and that many values
abbrev pub written_many : {A : Type 0} → (A → List ℕ) → List A → List ℕ
written_many f values = written_u32 (length values) ++ flat_map f values

-- a value behind a TRUE
abbrev pub written_link : {A : Type 0} → (A → List ℕ) → A → List ℕ
written_link f value = written_flag true ++ f value

-- a linked list: values, each behind a TRUE, and a FALSE behind the last
abbrev pub written_chain : {A : Type 0} → (A → List ℕ) → List A → List ℕ
written_chain f values = flat_map (written_link f) values ++ written_flag false

-- What a writer did to the bytes written so far. At Ok the encoding follows them, and the value fits its form. TooLong
-- is returned only if the value doesn't fit, and Memory only if there was no room for the encoding. After an error the
-- bytes are as before.
abbrev pub Writes : {T : Type 0} → Vec ℕ → Vec ℕ → Result T WireError → List ℕ → Type 0 → Type 0
Writes old new result encoding Fits =
    OnOk result ((new.items ≡ old.items ++ encoding) × Fits)
    × OnErr result (new.items ≡ old.items)
    × (IsErrOf result errors.TooLong → ¬ Fits)
    × (IsErrOf result errors.Memory → vec_capacity old < vec_len old + length encoding)
    × (IsErrOf result errors.Short → ⊥)
    × (vec_capacity old ≤ vec_capacity new)
