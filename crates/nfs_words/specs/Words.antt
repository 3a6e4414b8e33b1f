-- The words of the table, one for each slot of clients' numbers. A word has a generation of its slot and a part: it is
-- the generation times 2^40, and the part. The part is a moment and 1 where the lease of that generation is open, and
-- 2^40 - 1 where it was closed or retired. A word is 0 where no lease of its slot was opened.
use Rattle.std.specs.Prelude.{ℕ, ◌+◌, ◌-◌, ◌*◌, ◌^◌, ◌<◌, if◌then◌else◌, nat_lt, List, slice_index}
use Rattle.nfs_owners.specs.Slots.{generation_of, slot_of}

-- a moment is below 2^40 - 2, so that a moment and 1 is below the closed part
abbrev pub IsMoment : ℕ → Type 0
IsMoment seconds = seconds < 2 ^ 40 - 2

-- the part of the word of a lease that was closed or retired
abbrev pub closed_part : ℕ
closed_part = 2 ^ 40 - 1

-- the word of the generation with this part
abbrev pub word_with : ℕ → ℕ → ℕ
word_with generation part = generation * 2 ^ 40 + part

-- What a generation reads in a word: of an earlier generation's word that it is vacant, of a later one's that it is
-- closed, and of its own the part.
abbrev pub part_in : ℕ → ℕ → ℕ
part_in generation word =
    if nat_lt word (word_with generation 0) then 0
    else if nat_lt word (word_with (generation + 1) 0) then word - word_with generation 0
    else closed_part

-- what the client reads in the word of its slot
abbrev pub part_at : List ℕ → ℕ → ℕ
part_at words client = part_in (generation_of client) (slice_index words (slot_of client))
