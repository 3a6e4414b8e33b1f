-- The form of a type on the wire (RFC 4506): everything there is to say about its bytes, in one record. Larger forms
-- are built from the ones below, so that the form of a record reads like its declaration in XDR.
use Rattle.std.specs.Prelude.{◌≡◌, ℕ, ◌^◌, ◌<◌, ◌≤◌, ◌==◌, Bool, Option, Some, List, [], ◌++◌, length, Ok}
use Rattle.std.specs.List.{All, find}
use Rattle.xdr.specs.Layout.{◌⨾◌, Nothing, Number, U32, Flag, Fixed, Opaque, Many, Chain, NO_LIMIT}
use Rattle.xdr.specs.Reading.{Read, Reads, ◌then◌, as_value, some_at, number_at, flag_at, fixed_at, opaque_at, many_at, chain_at, value_at, constant_at}
use Rattle.xdr.specs.Writing.{written_number, written_u32, written_flag, written_opaque, written_many, written_chain}
use Rattle.xdr.specs.laws.Reads.{reads_nothing, reads_number, reads_constant, reads_flag, reads_fixed, reads_opaque, reads_then, reads_as}
use Rattle.xdr.specs.laws.Spells.{nothing_is_encoded, number_is_encoded, flag_is_encoded, fixed_is_encoded, opaque_is_encoded, both_are_encoded}
use Rattle.xdr.specs.laws.Subsets.{reads_some}
use Rattle.xdr.specs.laws.Enumerations.{reads_value}
use Rattle.xdr.specs.laws.Lists.{reads_many, many_are_encoded}
use Rattle.xdr.specs.laws.Chains.{reads_chain, chain_is_encoded}

pub record Form (A : Type 0) : Type 1 where
  -- which bytes encode a value, with any padding
  pub layout : A → List ℕ → Type 0
  -- the value at the front of the bytes, and the bytes after it
  pub at : List ℕ → Read A
  -- the bytes that are written for a value, with zero padding
  pub encoding : A → List ℕ
  -- the value can be written: its numbers and lengths are within what the form can express
  pub Fits : A → Type 0
  -- what is read matches the layout, and whatever matches the layout is read, no matter which bytes follow
  pub reads : Reads layout at
  -- what is written matches the layout
  pub encodes : (value : A) → Fits value → layout value (encoding value)

-- void
abbrev pub nothing : Form (Unit {0})
nothing = record {
  layout = λ v. Nothing;
  at = λ bytes. Ok (tt, bytes);
  encoding = λ v. [];
  Fits = λ v. Unit {0};
  reads = reads_nothing;
  encodes = nothing_is_encoded;
}

-- a number of `count` bytes, high byte first
abbrev pub number : ℕ → Form ℕ
number count = record {
  layout = Number count;
  at = number_at count;
  encoding = written_number count;
  Fits = λ n. n < 256 ^ count;
  reads = reads_number count;
  encodes = number_is_encoded count;
}

-- unsigned int
abbrev pub u32 : Form ℕ
u32 = number 4

-- unsigned hyper
abbrev pub u64 : Form ℕ
u64 = number 8

-- bool
abbrev pub flag : Form Bool
flag = record {
  layout = Flag;
  at = flag_at;
  encoding = written_flag;
  Fits = λ b. Unit {0};
  reads = reads_flag;
  encodes = λ b fits. flag_is_encoded b;
}

-- opaque value[count], where count is a multiple of four, so that no padding follows
abbrev pub fixed_opaque : ℕ → Form (List ℕ)
fixed_opaque count = record {
  layout = Fixed count;
  at = fixed_at count;
  encoding = λ bytes. bytes;
  Fits = λ bytes. length bytes ≡ count;
  reads = reads_fixed count;
  encodes = fixed_is_encoded count;
}

-- opaque value<limit>
abbrev pub opaque : ℕ → Form (List ℕ)
opaque limit = record {
  layout = Opaque limit;
  at = opaque_at limit;
  encoding = written_opaque;
  Fits = λ bytes. (length bytes ≤ limit) × (length bytes < 2 ^ 32);
  reads = reads_opaque limit;
  encodes = λ bytes fits. opaque_is_encoded limit bytes fits.0 fits.1;
}

-- opaque value<>
abbrev pub bytes : Form (List ℕ)
bytes = opaque NO_LIMIT

-- values<limit>
abbrev pub many : {A : Type 0} → ℕ → Form A → Form (List A)
many limit f = record {
  layout = Many limit f.layout;
  at = many_at limit f.at;
  encoding = written_many f.encoding;
  Fits = λ values. (length values ≤ limit) × (length values < 2 ^ 32) × All f.Fits values;
  reads = reads_many limit f.layout f.at f.reads;
  encodes = λ values fits. many_are_encoded limit f.layout f.encoding f.Fits f.encodes values fits.0
      fits.1 fits.2;
}

-- a linked list, as struct { A value; list *next; } has it: values, each behind a TRUE, and a FALSE behind the last
abbrev pub chain : {A : Type 0} → Form A → Form (List A)
chain f = record {
  layout = Chain f.layout;
  at = chain_at f.at;
  encoding = written_chain f.encoding;
  Fits = All f.Fits;
  reads = reads_chain f.layout f.at f.reads;
  encodes = chain_is_encoded f.layout f.encoding f.Fits f.encodes;
}

-- a value of the first form, and then one of the second
infixr 5 ◌and◌
abbrev pub ◌and◌ : {A B : Type 0} → Form A → Form B → Form (A × B)
f and g = record {
  layout = λ p. f.layout p.0 ⨾ g.layout p.1;
  at = f.at then g.at;
  encoding = λ p. f.encoding p.0 ++ g.encoding p.1;
  Fits = λ p. f.Fits p.0 × g.Fits p.1;
  reads = reads_then f.layout g.layout f.at g.at f.reads g.reads;
  encodes =
      both_are_encoded f.layout g.layout f.encoding g.encoding f.Fits g.Fits f.encodes g.encodes;
}

-- a record whose fields have this form: `make` and `fields` are each other's inverse
abbrev pub of : {A B : Type 0} → (make : A → B) (fields : B → A) → ((a : A) → fields (make a) ≡ a)
    → ((b : B) → make (fields b) ≡ b) → Form A → Form B
of make fields back again f = record {
  layout = λ b. f.layout (fields b);
  at = as_value make f.at;
  encoding = λ b. f.encoding (fields b);
  Fits = λ b. f.Fits (fields b);
  reads = reads_as f.layout f.at make fields back again f.reads;
  encodes = λ b fits. f.encodes (fields b) fits;
}

-- values made from some values of this form: `make` gives none for the others, and `fields` undoes it
abbrev pub some_of : {A B : Type 0} → (make : A → Option B) (fields : B → A)
    → ((a : A) (b : B) → make a ≡ Some b → fields b ≡ a) → Form A → Form B
some_of make fields back f = record {
  layout = λ b bytes. (make (fields b) ≡ Some b) × f.layout (fields b) bytes;
  at = some_at make f.at;
  encoding = λ b. f.encoding (fields b);
  Fits = λ b. (make (fields b) ≡ Some b) × f.Fits (fields b);
  reads = reads_some f.layout f.at make fields back f.reads;
  encodes = λ b fits. (fits.0, f.encodes (fields b) fits.1);
}

-- enum: these values, each of which is found by its number
abbrev pub enumeration : {A : Type 0} → (number_of : A → ℕ) (values : List A)
    → ((value : A) → find (λ v. number_of v == number_of value) values ≡ Some value) → Form A
enumeration number_of values known = record {
  layout = λ value. U32 (number_of value);
  at = value_at number_of values;
  encoding = λ value. written_u32 (number_of value);
  Fits = λ value. number_of value < 2 ^ 32;
  reads = reads_value number_of values known;
  encodes = λ value fits. number_is_encoded 4 (number_of value) fits;
}

-- a number that always has this value
abbrev pub constant : ℕ → Form (Unit {0})
constant n = record {
  layout = λ v. U32 n;
  at = constant_at n;
  encoding = λ v. written_u32 n;
  Fits = λ v. n < 2 ^ 32;
  reads = reads_constant n;
  encodes = λ v fits. number_is_encoded 4 n fits;
}
