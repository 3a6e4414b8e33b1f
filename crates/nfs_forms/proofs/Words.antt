-- How many bytes the words of a bitmap take.
use Rattle.std.proofs.Common.{◌≡◌, ℕ, ◌*◌, List, [], ◌∷◌, length, refl, arith}
use Rattle.std.specs.List.{flat_map}
use Rattle.std.proofs.lemmas.List.{length-append}
use Rattle.byteorder.specs.Numbers.{length-bytes_high_first}
use Rattle.xdr.specs.Writing.{written_u32, written_number}

-- each word takes four bytes
pub words_len : (words : List ℕ) → length (flat_map written_u32 words) ≡ 4 * length words
unfolding written_number
words_len [] = refl
words_len (word ∷ words) =
    let one : length (written_u32 word) ≡ 4 = length-bytes_high_first 4 word in
    omega (arith, length-append (written_u32 word) (flat_map written_u32 words), words_len words)
