-- The numbers of clients. A number is a generation of a slot. SLOTS is 256, and of slot 0 none is given, so 255 clients
-- can be live at once. A slot is given again when its client has gone, and a number never.
use Rattle.std.specs.Prelude.{ℕ, ◌+◌, ◌*◌, ◌%◌, ◌/◌, Bool, ◌&&◌, ◌==◌, nat_lt}
use Rattle.nfs_owners.specs.declared.slots.TheConstants.{SLOTS}

abbrev pub slot_of : ℕ → ℕ
slot_of number = number % SLOTS

abbrev pub generation_of : ℕ → ℕ
generation_of number = number / SLOTS

-- the number that is this generation of this slot
abbrev pub number_of : ℕ → ℕ → ℕ
number_of slot generation = generation * SLOTS + slot

-- both numbers are of one slot, and the first is of an earlier generation
abbrev pub is_earlier : ℕ → ℕ → Bool
is_earlier number other =
    (slot_of number == slot_of other) && nat_lt (generation_of number) (generation_of other)
