-- What the slots of clients' numbers make sure of.
use Rattle.std.specs.Prelude.{◌≡◌, ◌⊎◌, ℕ, ◌<◌, ◌↔◌, Bool, ◌&&◌, not, IsFalse, IsTrue, List, [], filter, find, Some, None, is_some, option_to_list, if◌then◌else◌}
use Rattle.std.specs.List.{list_any}
use Rattle.nfs_owners.specs.Choice.{choice, free_slot, has_slot, is_live_slot, may_give_way, without_replaced}
use Rattle.nfs_owners.specs.ClientChange.{given_by, with_change, with_newcomer}
use Rattle.nfs_owners.specs.ClientRoom.{FitsRecords}
use Rattle.nfs_owners.specs.Registry.{AreRecords, Registry, is_live, is_of, is_of_client, was_given, without_client}
use Rattle.nfs_owners.specs.Slots.{is_earlier, slot_of}
use Rattle.nfs_owners.specs.declared.client_record.ClientRecord.{ClientRecord}
use Rattle.nfs_owners.specs.declared.clients.client_change.ClientChange.{ClientChange}
use Rattle.nfs_owners.specs.declared.clients.client_change.ClientChange.TheVariants as changes
use Rattle.nfs_owners.specs.declared.slots.TheConstants.{GENERATIONS, SLOTS}

-- no two live clients have one slot
abbrev pub LiveSlotsDiffer : Registry → Type 0
LiveSlotsDiffer registry =
    (client other : ℕ) → IsTrue (is_live client registry) → IsTrue (is_live other registry)
    → slot_of client ≡ slot_of other → client ≡ other

-- once a later number of its slot was given, a number has no record, confirmed or not
abbrev pub EarlierAreGone : Registry → Type 0
EarlierAreGone registry =
    (client later : ℕ) → IsTrue (is_earlier client later) → IsTrue (was_given later registry)
    → IsFalse (list_any (is_of_client client) registry.confirmed)
    × IsFalse (list_any (is_of_client client) registry.unconfirmed)

abbrev pub SlotsAreApart : Type 0
SlotsAreApart =
    (registry : Registry) → AreRecords registry → LiveSlotsDiffer registry × EarlierAreGone registry

-- The change gives no number that was given before, and just the one that it gives comes to those that were given.
pub record GivesOnce (change : ClientChange) (old : Registry) : Type 0 where
  pub fresh : (number : ℕ) → given_by change ≡ Some number → IsFalse (was_given number old)
  pub given : (number : ℕ) → IsTrue (was_given number (with_change change old))
      ↔ (IsTrue (was_given number old) ⊎ (given_by change ≡ Some number))

-- Each change that fits the records gives a number once, and who is removed leaves what was given.
abbrev pub NumbersComeOnce : Type 0
NumbersComeOnce =
    ((change : ClientChange) (old : Registry) → AreRecords old → FitsRecords change old
    → GivesOnce change old)
    × ((client number : ℕ) (old : Registry)
    → was_given number (without_client client old) ≡ was_given number old)

-- a client is live in each slot
abbrev pub AreSlotsLive : Registry → Type 0
AreSlotsLive registry = (slot : ℕ) → 0 < slot → slot < SLOTS → IsTrue (is_live_slot registry slot)

-- As long as no slot's generations can be used up, there is no number for a newcomer exactly where a client is live in
-- each slot.
abbrev pub NoNumberIsLeft : Type 0
NoNumberIsLeft =
    (registry : Registry) (id : List ℕ) → AreRecords registry → registry.last_confirm < GENERATIONS
    → (choice id registry ≡ None) ↔ AreSlotsLive registry

-- The unconfirmed records that give way to a newcomer with this id: none where a slot is free, and else the oldest of
-- the other ids' that may.
abbrev pub giving_way : List ℕ → Registry → List ClientRecord
giving_way id registry =
    let others = without_replaced id registry in
    if is_some (free_slot others)
    then []
    else option_to_list (find (may_give_way others) others.unconfirmed)

-- Of the unconfirmed records of other ids just those have the slot that a newcomer gets: one at most.
abbrev pub OneGivesWay : Type 0
OneGivesWay =
    (id : List ℕ) (registry : Registry) (number : ℕ) → AreRecords registry
    → choice id registry ≡ Some number
    → filter (has_slot (slot_of number)) (without_replaced id registry).unconfirmed
    ≡ giving_way id registry

-- the record has another id, and a live client's number, so it is an update of that client
abbrev pub is_others_update : List ℕ → Registry → ClientRecord → Bool
is_others_update id registry r = not (is_of id r) && is_live r.state.client.number registry

-- a newcomer leaves the unconfirmed updates of other ids' clients
abbrev pub UpdatesStay : Type 0
UpdatesStay =
    (r : ClientRecord) (old : Registry) → FitsRecords (changes.Arrives r) old
    → filter (is_others_update r.id old) (with_newcomer r old).unconfirmed
    ≡ filter (is_others_update r.id old) old.unconfirmed

-- the record has another id than the newcomer, and another slot
abbrev pub is_others_elsewhere : ClientRecord → ClientRecord → Bool
is_others_elsewhere newcomer r =
    not (is_of newcomer.id r) && not (has_slot (slot_of newcomer.state.client.number) r)

-- a newcomer leaves the unconfirmed records of other ids in other slots, in their order, and all confirmed ones
abbrev pub OthersStay : Type 0
OthersStay =
    (r : ClientRecord) (old : Registry)
    → (filter (is_others_elsewhere r) (with_newcomer r old).unconfirmed
    ≡ filter (is_others_elsewhere r) old.unconfirmed)
    × ((with_newcomer r old).confirmed ≡ old.confirmed)
