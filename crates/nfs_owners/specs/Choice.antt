-- Which number a newcomer is given.
use Rattle.std.specs.Prelude.{◌≡◌, ℕ, ◌-◌, ◌<◌, Bool, false, ◌&&◌, ◌||◌, ◌==◌, not, nat_lt, IsFalse, List, filter, find, length, slice_index_or, Option, option_map}
use Rattle.std.specs.List.{list_any, range_with_len}
use Rattle.std.specs.Option.{option_or}
use Rattle.nfs_owners.specs.Registry.{IsClientNumber, Registry, given_of, is_live, without_id}
use Rattle.nfs_owners.specs.Slots.{generation_of, number_of, slot_of}
use Rattle.nfs_owners.specs.declared.client_record.ClientRecord.{ClientRecord}
use Rattle.nfs_owners.specs.declared.slots.TheConstants.{GENERATIONS, SLOTS}

-- the record's number is of this slot
abbrev pub has_slot : ℕ → ClientRecord → Bool
has_slot slot r = slot_of r.state.client.number == slot

-- a live client has a number of this slot
abbrev pub is_live_slot : Registry → ℕ → Bool
is_live_slot registry slot = list_any (has_slot slot) registry.confirmed

-- a record, confirmed or not, has a number of this slot
abbrev pub is_in_use : Registry → ℕ → Bool
is_in_use registry slot =
    is_live_slot registry slot || list_any (has_slot slot) registry.unconfirmed

-- the slot has a number that wasn't given yet
abbrev pub has_number_left : Registry → ℕ → Bool
has_number_left registry slot = nat_lt (given_of registry slot) GENERATIONS

-- the first number of the slot that wasn't given yet
abbrev pub next_number : Registry → ℕ → ℕ
next_number registry slot = number_of slot (given_of registry slot)

-- this is the next number of a slot in which no client is live
pub record IsNextNumber (number : ℕ) (registry : Registry) : Type 0 where
  pub is_number : IsClientNumber number
  pub next : generation_of number ≡ given_of registry (slot_of number)
  pub alone : IsFalse (is_live_slot registry (slot_of number))

-- no record has the slot, and it has a number left
abbrev pub is_free : Registry → ℕ → Bool
is_free registry slot = not (is_in_use registry slot) && has_number_left registry slot

-- The unconfirmed record may give way to a newcomer, who gets its slot: its number isn't a live client's, and the slot
-- has a number left.
abbrev pub may_give_way : Registry → ClientRecord → Bool
may_give_way registry r =
    not (is_live r.state.client.number registry)
    && has_number_left registry (slot_of r.state.client.number)

-- the slots of which numbers are given
unfoldable pub client_slots : List ℕ
client_slots = range_with_len 1 (SLOTS - 1)

-- the least slot that is free, if one is
abbrev pub free_slot : Registry → Option ℕ
free_slot registry = find (is_free registry) client_slots

-- the slot of the oldest unconfirmed record that may give way, if one may
abbrev pub slot_to_get : Registry → Option ℕ
slot_to_get registry =
    option_map (λ r. slot_of r.state.client.number)
    (find (may_give_way registry) registry.unconfirmed)

-- the registry without the id's unconfirmed record, which a newcomer's replaces
abbrev pub without_replaced : List ℕ → Registry → Registry
without_replaced id registry =
    record registry { unconfirmed = without_id id registry.unconfirmed }

-- The slot that a newcomer with this id is given: the least one that is free, and else that of the oldest unconfirmed
-- record that may give way. The id's own unconfirmed record has left by then.
abbrev pub chosen_slot : List ℕ → Registry → Option ℕ
chosen_slot id registry =
    let others = without_replaced id registry in
    option_or (free_slot others) (slot_to_get others)

-- the number that the newcomer is given: the next one of that slot
abbrev pub choice : List ℕ → Registry → Option ℕ
choice id registry = option_map (next_number registry) (chosen_slot id registry)

-- the unconfirmed records without those of this slot
abbrev pub without_unconfirmed_of : ℕ → Registry → Registry
without_unconfirmed_of slot registry = record registry {
  unconfirmed = filter (λ r. not (has_slot slot r)) registry.unconfirmed;
}

-- the slot has no mark, and a number left
abbrev pub can_be_given : List Bool → Registry → ℕ → Bool
can_be_given marks registry slot =
    not (slice_index_or marks slot false) && has_number_left registry slot

-- for each slot, whether it passes the test
abbrev pub MarksSlots : (ℕ → Bool) → List Bool → Type 0
MarksSlots test marks =
    (length marks ≡ SLOTS)
    × ((slot : ℕ) → slot < SLOTS → slice_index_or marks slot false ≡ test slot)
