-- Reading from the front of a list of bytes: the value and the bytes after it, or why it can't be read.
use Rattle.std.specs.Prelude.{◌≡◌, ℕ, zero, suc, ◌+◌, Bool, true, false, List, [], ◌∷◌, ◌++◌, length, take, drop, Option, Some, None, Result, Ok, Err, nat_lt, ◌==◌, if◌then◌else◌}
use Rattle.std.specs.List.{find}
use Rattle.byteorder.specs.Endian.{big_number}
use Rattle.xdr.specs.declared.wire_error.WireError.{WireError}
use Rattle.xdr.specs.declared.wire_error.WireError.TheVariants as errors
use Rattle.xdr.specs.Layout.{padding_of}

-- what a reading function returns
abbrev pub Read : Type 0 → Type 0
Read A = Result (A × List ℕ) WireError

infixl 10 ◌>>=◌
abbrev pub ◌>>=◌ : {A B : Type 0} → Result A WireError → (A → Result B WireError)
    → Result B WireError
(Ok x) >>= f = f x
(Err e) >>= f = Err e

-- What a function returned, seen through `view`, is what reading the list gives, unless the function ran out of memory.
abbrev pub Fails : {Y : Type 0} → WireError → Result Y WireError → Type 0
Fails errors.Memory read = Unit {0}
Fails errors.Short read = read ≡ Err errors.Short
Fails errors.TooLong read = read ≡ Err errors.TooLong

abbrev pub Gives : {X Y : Type 0} → (X → Y) → Result X WireError → Result Y WireError → Type 0
Gives view (Ok x) read = read ≡ Ok (view x)
Gives view (Err e) read = Fails e read

-- What a function that takes no memory returned, seen through `view`, is what reading gives: it never runs out of
-- memory.
abbrev pub Answers : {X Y : Type 0} → (X → Y) → Result X WireError → Result Y WireError → Type 0
Answers view (Ok x) read = read ≡ Ok (view x)
Answers view (Err e) read = read ≡ Err e

unfoldable pub number_at : ℕ → List ℕ → Read ℕ
number_at count bytes = if nat_lt (length bytes) count then Err errors.Short
    else Ok (big_number count bytes, drop count bytes)

abbrev pub flag_of : ℕ → List ℕ → Read Bool
flag_of n rest =
    if n == 0 then Ok (false, rest) else if n == 1 then Ok (true, rest) else Err errors.Short

unfoldable pub flag_at : List ℕ → Read Bool
flag_at bytes = number_at 4 bytes >>= λ n. flag_of n.0 n.1

unfoldable pub fixed_at : ℕ → List ℕ → Read (List ℕ)
fixed_at count bytes = if nat_lt (length bytes) count then Err errors.Short
    else Ok (take count bytes, drop count bytes)

-- `count` bytes, with their padding read as well
abbrev pub padded_at : ℕ → List ℕ → Read (List ℕ)
padded_at count bytes =
    if nat_lt (length bytes) (count + padding_of count) then Err errors.Short
    else Ok (take count bytes, drop (count + padding_of count) bytes)

unfoldable pub opaque_at : ℕ → List ℕ → Read (List ℕ)
opaque_at limit bytes =
    number_at 4 bytes >>= λ n. if nat_lt limit n.0 then Err errors.TooLong else padded_at n.0 n.1

-- a value of the first kind, and then one of the second
infixr 5 ◌then◌
abbrev pub ◌then◌ : {A B : Type 0} → (List ℕ → Read A) → (List ℕ → Read B) → List ℕ → Read (A × B)
(f then g) bytes = f bytes >>= λ a. g a.1 >>= λ b. Ok ((a.0, b.0), b.1)

-- a value made from what is read
abbrev pub as_value : {A B : Type 0} → (A → B) → (List ℕ → Read A) → List ℕ → Read B
as_value make f bytes = f bytes >>= λ a. Ok (make a.0, a.1)

-- the value that was found for a number, or Short if there is none
abbrev pub or_short : {A : Type 0} → Option A → List ℕ → Read A
or_short None rest = Err errors.Short
or_short (Some value) rest = Ok (value, rest)

-- a value made from what is read, or Short if none is made from it
abbrev pub some_at : {A B : Type 0} → (A → Option B) → (List ℕ → Read A) → List ℕ → Read B
some_at make f bytes = f bytes >>= λ a. or_short (make a.0) a.1

-- the value in the list whose number is at the front
unfoldable pub value_at : {A : Type 0} → (A → ℕ) → List A → List ℕ → Read A
value_at number_of values bytes =
    number_at 4 bytes >>= λ n. or_short (find (λ v. number_of v == n.0) values) n.1

-- nothing is read but this number, which has to be at the front
unfoldable pub constant_at : ℕ → List ℕ → Read (Unit {0})
constant_at n bytes = number_at 4 bytes >>= λ k. if k.0 == n then Ok (tt, k.1) else Err errors.Short

-- `count` values, one after the other
unfoldable pub each_at : {A : Type 0} → (List ℕ → Read A) → ℕ → List ℕ → Read (List A)
each_at f zero bytes = Ok ([], bytes)
each_at f (suc count) bytes = as_value (λ p. p.0 ∷ p.1) (f then each_at f count) bytes

-- a count of at most the limit, and that many values
unfoldable pub many_at : {A : Type 0} → ℕ → (List ℕ → Read A) → List ℕ → Read (List A)
many_at limit f bytes =
    number_at 4 bytes >>= λ n. if nat_lt limit n.0 then Err errors.TooLong else each_at f n.0 n.1

-- a value behind a TRUE, or a FALSE alone
abbrev pub link_of : {A : Type 0} → (List ℕ → Read A) → Bool → List ℕ → Read (Option A)
link_of f true rest = as_value Some f rest
link_of f false rest = Ok (None, rest)

unfoldable pub link_at : {A : Type 0} → (List ℕ → Read A) → List ℕ → Read (Option A)
link_at f bytes = flag_at bytes >>= λ more. link_of f more.0 more.1

-- the value of a link and those behind it, or none behind the last
abbrev pub or_end : {A : Type 0} → Option A → (List ℕ → Read (List A)) → List ℕ → Read (List A)
or_end None more rest = Ok ([], rest)
or_end (Some value) more rest = as_value (λ values. value ∷ values) more rest

-- a linked list of fewer values than `most`
unfoldable pub chain_below : {A : Type 0} → (List ℕ → Read A) → ℕ → List ℕ → Read (List A)
chain_below f zero bytes = Err errors.Short
chain_below f (suc most) bytes =
    link_at f bytes >>= λ link. or_end link.0 (chain_below f most) link.1

-- a linked list, which has fewer values than bytes, as each value is behind a TRUE
unfoldable pub chain_at : {A : Type 0} → (List ℕ → Read A) → List ℕ → Read (List A)
chain_at f bytes = chain_below f (length bytes) bytes

-- the bytes begin with some that match the layout, and `rest` follows
abbrev pub Begins : (List ℕ → Type 0) → List ℕ → List ℕ → Type 0
Begins layout bytes rest = (front : List ℕ) × (bytes ≡ front ++ rest) × layout front

-- A reading function reads a layout: what it reads matches the layout, and what matches the layout is read, whatever
-- follows.
pub record Reads {A : Type 0} (layout : A → List ℕ → Type 0) (read : List ℕ → Read A) : Type 0 where
  pub sound : (bytes : List ℕ) (value : A) (rest : List ℕ) → read bytes ≡ Ok (value, rest)
      → Begins (layout value) bytes rest
  pub complete : (value : A) (front rest : List ℕ) → layout value front
      → read (front ++ rest) ≡ Ok (value, rest)
