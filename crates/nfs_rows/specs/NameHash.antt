-- The keyed hash of a name in a space of names.
use Rattle.std.specs.Prelude.{ℕ, List, bit_xor}
use Rattle.std.specs.Int.{w64, rotate_left, to_le_bytes}
use Rattle.std.specs.Hash.DefaultHasher.{finish, write}
use Rattle.std.specs.RandomState.{initial_hasher}
use Rattle.std.specs.declared.hash.RandomState.{RandomState}

-- what the hasher of the seed gives after the eight bytes of a word of the space and the kind, and then the name
unfoldable pub hash_of : RandomState → ℕ → ℕ → List ℕ → ℕ
hash_of seed space kind name =
    finish (write (write (initial_hasher seed)
    (to_le_bytes w64 (bit_xor (rotate_left w64 space 8) kind))) name)
