-- How words are read.
use Rattle.std.proofs.Common.{◌≡◌, ◌≢◌, ℕ, ◌+◌, ◌<◌, ◌≤◌, max, arith}
use Rattle.std.proofs.lemmas.Bool.Decides.{nat_tests}
use Rattle.nfs_words.specs.Words.{closed_part, part_in, word_with}
use Rattle.nfs_words.specs.Rule.{IsWordOf}

pub part_low : (generation word : ℕ) → part_in generation word ≤ closed_part
part_low generation word = grind (arith, nat_tests)

-- something of the generation, or a later one
pub read_some : (generation word : ℕ) → part_in generation word ≢ 0 → word_with generation 0 < word
read_some generation word h = grind (arith, nat_tests)

pub read_raise : (generation word k : ℕ) → word_with generation 0 < word → k ≤ closed_part
    → part_in generation (max word (word_with generation k)) ≡ max (part_in generation word) k
read_raise generation word k h low = grind (arith, nat_tests)

pub read_raise_else : (generation p word k : ℕ) → word_with generation 0 < word → k ≤ closed_part
    → p ≢ generation → part_in p (max word (word_with generation k)) ≡ part_in p word
read_raise_else generation p word k h low apart = grind (arith, nat_tests)

pub read_here : (generation k : ℕ) → k ≤ closed_part → part_in generation (word_with generation k) ≡ k
read_here generation k low = grind (arith, nat_tests)

pub read_earlier : (generation p k : ℕ) → p < generation → part_in p (word_with generation k) ≡ closed_part
read_earlier generation p k h = grind (arith, nat_tests)

pub read_later : (generation p k : ℕ) → k ≤ closed_part → generation < p
    → part_in p (word_with generation k) ≡ 0
read_later generation p k low h = grind (arith, nat_tests)

-- two words of one generation are read alike by the others
pub read_alike : (generation p j k : ℕ) → j ≤ closed_part → k ≤ closed_part → p ≢ generation
    → part_in p (word_with generation j) ≡ part_in p (word_with generation k)
read_alike generation p j k low high apart = grind (arith, nat_tests)

pub read_below : (generation word : ℕ) → word < word_with generation 0 → part_in generation word ≡ 0
read_below generation word h = grind (arith, nat_tests)

-- the last generation's raise stays of the last generation
pub last_raise : (generation word k n : ℕ) → word_with generation 0 < word → k ≤ closed_part → IsWordOf word n
    → IsWordOf (max word (word_with generation k)) n
last_raise generation word k n h low last = record {
  none = λ is. let z = last.none is in absurd (omega (arith, z, h));
  last = λ p is. let l = last.last p is in (omega (arith, l.0, l.1), omega (arith, l.0, l.1, h, low));
}

-- a word that is closed is the rest of its slot
pub closed_word : (generation word : ℕ)
    → (word_with generation 0 < word) × (word < word_with (generation + 1) 0)
    → part_in generation word ≡ closed_part → word ≡ word_with generation closed_part
closed_word generation word h is = grind (arith, nat_tests, h.0, h.1)
