-- bitmap4 (RFC 7531): words of four bytes. Bit b is bit (b mod 32) of word (b / 32), rounded down.
use Rattle.std.specs.Prelude.{ℕ, List}
use Rattle.xdr.specs.Form.{Form, many, u32}
use Rattle.xdr.specs.Layout.{NO_LIMIT}

-- typedef uint32_t bitmap4<>;
abbrev pub bitmap : Form (List ℕ)
bitmap = many NO_LIMIT u32
