-- Which bytes encode a value (RFC 4506). Numbers are big-endian.
use Rattle.std.specs.Prelude.{◌≡◌, ℕ, ◌-◌, ◌^◌, ◌%◌, ◌≤◌, Bool, true, false, Option, Some, None, List, [], ◌∷◌, ◌++◌, length, if◌then◌else◌}
use Rattle.byteorder.specs.Endian.{big_number}

-- the front of the bytes matches the first layout, and the back matches the second
infixr 5 ◌⨾◌
abbrev pub ◌⨾◌ : (List ℕ → Type 0) → (List ℕ → Type 0) → List ℕ → Type 0
(P ⨾ Q) bytes = (front : List ℕ) × (back : List ℕ) × (bytes ≡ front ++ back) × P front × Q back

-- no bytes
abbrev pub Nothing : List ℕ → Type 0
Nothing bytes = bytes ≡ []

-- a number of `count` bytes, high byte first
abbrev pub Number : ℕ → ℕ → List ℕ → Type 0
Number count n bytes = (length bytes ≡ count) × (big_number count bytes ≡ n)

abbrev pub U32 : ℕ → List ℕ → Type 0
U32 = Number 4

abbrev pub U64 : ℕ → List ℕ → Type 0
U64 = Number 8

-- a bool, as the number 1 or 0
abbrev pub Flag : Bool → List ℕ → Type 0
Flag b = U32 (if b then 1 else 0)

-- `count` bytes as they are
abbrev pub Fixed : ℕ → List ℕ → List ℕ → Type 0
Fixed count value bytes = (length value ≡ count) × (bytes ≡ value)

-- how many bytes of padding follow n bytes, to a multiple of 4
abbrev pub padding_of : ℕ → ℕ
padding_of n = (4 - n % 4) % 4

-- any bytes, `count` of them
abbrev pub Any : ℕ → List ℕ → Type 0
Any count bytes = length bytes ≡ count

-- the greatest length that four bytes can hold
abbrev pub NO_LIMIT : ℕ
NO_LIMIT = 2 ^ 32 - 1

-- a length of at most the limit, that many bytes, and padding of any bytes
abbrev pub Opaque : ℕ → List ℕ → List ℕ → Type 0
Opaque limit value =
    λ bytes. (length value ≤ limit)
    × (U32 (length value) ⨾ Fixed (length value) value ⨾ Any (padding_of (length value))) bytes

-- values, one after the other
abbrev pub Each : {A : Type 0} → (A → List ℕ → Type 0) → List A → List ℕ → Type 0
Each P [] = Nothing
Each P (value ∷ values) = P value ⨾ Each P values

-- a count of at most the limit, and that many values
abbrev pub Many : {A : Type 0} → ℕ → (A → List ℕ → Type 0) → List A → List ℕ → Type 0
Many limit P values = λ bytes. (length values ≤ limit) × (U32 (length values) ⨾ Each P values) bytes

-- a value behind a TRUE, or a FALSE alone
abbrev pub Link : {A : Type 0} → (A → List ℕ → Type 0) → Option A → List ℕ → Type 0
Link P None = Flag false
Link P (Some value) = Flag true ⨾ P value

-- a linked list: values, each behind a TRUE, and a FALSE behind the last
abbrev pub Chain : {A : Type 0} → (A → List ℕ → Type 0) → List A → List ℕ → Type 0
Chain P [] = Link P None
Chain P (value ∷ values) = Link P (Some value) ⨾ Chain P values
