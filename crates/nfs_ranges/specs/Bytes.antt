-- The bytes that an offset and a length name (RFC 7530, section 16.10). Bytes are numbered from 0 to 2^64 - 1, and a
-- length of 2^64 - 1, which has all its bits set, goes as far as there are bytes.
use Rattle.std.specs.Prelude.{◌≡◌, ◌≢◌, ◌↔◌, ◌⊎◌, ℕ, ◌+◌, ◌-◌, ◌^◌, ◌<◌, ◌≤◌, ◌==◌, Bool, ◌&&◌, nat_le, Option, Some, None, if◌then◌else◌}
use Rattle.nfs_ranges.specs.declared.range.Range.{Range}

-- The two name bytes: the length isn't 0 and, unless it is all ones, they add up to at most 2^64 - 1. So byte
-- 2^64 - 1 is named by all ones alone.
abbrev pub HasBytes : ℕ → ℕ → Type 0
HasBytes offset length =
    (length ≢ 0) × ((length ≡ 2 ^ 64 - 1) ⊎ (offset + length ≤ 2 ^ 64 - 1))

-- the two name this byte
abbrev pub IsByteOf : ℕ → ℕ → ℕ → Type 0
IsByteOf offset length byte =
    (offset ≤ byte) × (byte ≤ 2 ^ 64 - 1) × ((length ≡ 2 ^ 64 - 1) ⊎ (byte < offset + length))

-- the range has this byte
abbrev pub IsIn : Range → ℕ → Type 0
IsIn range byte = (range.first ≤ byte) × (byte ≤ range.last)

-- the range has this byte, as a test
abbrev pub has : Range → ℕ → Bool
has range byte = nat_le range.first byte && nat_le byte range.last

-- The range has the bytes that the two name; there is none where they name none.
abbrev pub IsRangeOf : ℕ → ℕ → Option Range → Type 0
IsRangeOf offset length None = HasBytes offset length → ⊥
IsRangeOf offset length (Some range) =
    HasBytes offset length × ((byte : ℕ) → IsIn range byte ↔ IsByteOf offset length byte)

-- the length by which a report names a range: all ones where it has the last byte, else how many bytes it has
abbrev pub length_of : Range → ℕ
length_of range =
    if range.last == 2 ^ 64 - 1 then 2 ^ 64 - 1 else (range.last - range.first) + 1
