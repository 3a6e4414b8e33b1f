-- The laws of slots.
use Rattle.std.proofs.Common.{◌≡◌, ◌⊎◌, ℕ, ◌<◌, ◌≤◌, true, false, ◌&&◌, nat_lt, ◌==◌, List, Some, None, slice_index, inl, inr, refl, sym, ap, ◌∙◌, subst, arith}
use Rattle.std.specs.List.{AllByRecursion, list_any}
use Rattle.std.proofs.lemmas.Bool.{and_from, and_parts, and_right, cases_eq, eqb-true, false_from_ne_true, le-ltb, lt-ltb, ltb-true}
use Rattle.nfs_owners.specs.Choice.{IsNextNumber}
use Rattle.nfs_owners.specs.ClientChange.{given_by, with_change}
use Rattle.nfs_owners.specs.ClientRoom.{FitsRecords}
use Rattle.nfs_owners.specs.Registry.{AreRecords, HasOwnNumber, Registry, given_of, is_of_client, was_given}
use Rattle.nfs_owners.specs.SlotLaws.{EarlierAreGone, GivesOnce, LiveSlotsDiffer, NoNumberIsLeft, NumbersComeOnce, SlotsAreApart}
use Rattle.nfs_owners.specs.Slots.{generation_of, is_earlier, slot_of}
use Rattle.nfs_owners.specs.declared.client_record.ClientRecord.{ClientRecord}
use Rattle.nfs_owners.specs.declared.clients.client_change.ClientChange.{ClientChange}
use Rattle.nfs_owners.specs.declared.clients.client_change.ClientChange.TheVariants as changes
use Rattle.nfs_owners.specs.declared.slots.TheConstants.{SLOTS}
use Rattle.nfs_owners.proofs.Choosing.{all_live, none_chosen}
use Rattle.nfs_owners.proofs.Lists.{any_has}
use Rattle.nfs_owners.proofs.Numbering.{IsLast, given_other, given_same, last_own, one_last, with_one_more}

-- who has a record has the last number of its slot
of_record : (number : ℕ) (registry : Registry) (records : List ClientRecord) → AllByRecursion (HasOwnNumber registry) records → list_any (is_of_client number) records ≡ true → IsLast number registry
of_record number registry records have there =
    let found = any_has (HasOwnNumber registry) (is_of_client number) records there have in
    subst (λ n. IsLast n registry) (eqb-true found.0.state.client.number number found.2) (last_own registry found.0 found.1)

live_slots_differ : (registry : Registry) → AreRecords registry → LiveSlotsDiffer registry
live_slots_differ registry are client other live there =
    one_last client other registry (of_record client registry registry.confirmed are.confirmed_numbers live) (of_record other registry registry.confirmed are.confirmed_numbers there)

not_last : (client later : ℕ) (registry : Registry) → is_earlier client later ≡ true → was_given later registry ≡ true → IsLast client registry → ⊥
not_last client later registry earlier given last =
    let parts = and_parts (slot_of client == slot_of later) (nat_lt (generation_of client) (generation_of later)) earlier in
    let slots : slot_of client ≡ slot_of later = eqb-true (slot_of client) (slot_of later) parts.0 in
    let less = ltb-true (generation_of client) (generation_of later) parts.1 in
    let below = ltb-true (generation_of later) (given_of registry (slot_of later)) (and_parts (nat_lt 0 (slot_of later)) (nat_lt (generation_of later) (given_of registry (slot_of later))) given).1 in
    let counts : given_of registry (slot_of client) ≡ given_of registry (slot_of later) = ap (given_of registry) slots in
    omega (arith, less, below, counts, last.count)

earlier_are_gone : (registry : Registry) → AreRecords registry → EarlierAreGone registry
earlier_are_gone registry are client later earlier given =
    (gone registry.confirmed are.confirmed_numbers, gone registry.unconfirmed are.unconfirmed_numbers)
  where
    gone : (records : List ClientRecord) → AllByRecursion (HasOwnNumber registry) records → list_any (is_of_client client) records ≡ false
    gone records have =
        false_from_ne_true (list_any (is_of_client client) records) (λ there. not_last client later registry earlier given (of_record client registry records have there))

pub slots_are_apart : SlotsAreApart
slots_are_apart registry are = (live_slots_differ registry are, earlier_are_gone registry are)

-- A change gives a number once.

-- a number that was given, by its slot and its generation
abbrev WasGiven : ℕ → Registry → Type 0
WasGiven number registry = (0 < slot_of number) × (generation_of number < given_of registry (slot_of number))

given_parts : (number : ℕ) (registry : Registry) → was_given number registry ≡ true → WasGiven number registry
given_parts number registry given =
    let count : ℕ = given_of registry (slot_of number) in
    let parts = and_parts (nat_lt 0 (slot_of number)) (nat_lt (generation_of number) count) given in
    (ltb-true 0 (slot_of number) parts.0, ltb-true (generation_of number) count parts.1)

given_from : (number : ℕ) (registry : Registry) → WasGiven number registry → was_given number registry ≡ true
given_from number registry was =
    let count : ℕ = given_of registry (slot_of number) in
    and_from (nat_lt 0 (slot_of number)) (nat_lt (generation_of number) count) (lt-ltb 0 (slot_of number) was.0) (lt-ltb (generation_of number) count was.1)

same_number : (a b : ℕ) → slot_of a ≡ slot_of b → generation_of a ≡ generation_of b → a ≡ b
same_number a b slots generations = omega (arith, slots, generations)

-- what was given is what was given before, where no number is given
gives_none : (change : ClientChange) (old : Registry) → given_by change ≡ None → (with_change change old).given ≡ old.given → GivesOnce change old
gives_none change old none same = record {
  fresh = λ number is. absurd (cc (none, is));
  given = λ number. (
    λ now. inl (sym (stays number) ∙ now),
    λ before. elim before [ inl was ↦ stays number ∙ was | inr is ↦ absurd (cc (none, is)) ],
  );
}
  where
    stays : (number : ℕ) → was_given number (with_change change old) ≡ was_given number old
    stays number = ap (λ given. nat_lt 0 (slot_of number) && nat_lt (generation_of number) (slice_index given (slot_of number))) same

gives_newcomer : (r : ClientRecord) (old : Registry) → AreRecords old → IsNextNumber r.state.client.number old → GivesOnce (changes.Arrives r) old
gives_newcomer r old are next = record {
  fresh = λ other is. subst (λ n. was_given n old ≡ false) (the_number number other is) fresh;
  given = λ other. (
    λ now. comes other (given_parts other new now),
    λ before. elim before [ inl was ↦ stays other was | inr is ↦ subst (λ n. was_given n new ≡ true) (the_number number other is) given ],
  );
}
  where
    number : ℕ
    number = r.state.client.number

    below : slot_of number < SLOTS
    below = omega arith

    new : Registry
    new = with_one_more (slot_of number) old

    the_number : (a b : ℕ) → Some a ≡ Some b → a ≡ b
    the_number a b is = cc

    fresh : was_given number old ≡ false
    fresh =
        and_right (nat_lt 0 (slot_of number)) (nat_lt (generation_of number) (given_of old (slot_of number)))
        (le-ltb (generation_of number) (given_of old (slot_of number)) (omega (arith, next.next)))

    given : was_given number new ≡ true
    given =
        let risen = given_same (slot_of number) old are below in
        given_from number new (next.is_number, omega (arith, next.next, risen))

    stays : (other : ℕ) → was_given other old ≡ true → was_given other new ≡ true
    stays other was =
        let parts = given_parts other old was in
        let grown : given_of old (slot_of other) ≤ given_of new (slot_of other) = elim (cases_eq (slot_of other) (slot_of number)) [
          | inl same ↦
              let risen = given_same (slot_of number) old are below in
              subst (λ s. given_of old s ≤ given_of new s) (sym same) (omega (arith, risen))
          | inr apart ↦
              let equal = given_other (slot_of number) (slot_of other) old are below apart in
              omega (arith, equal)
        ] in
        given_from other new (parts.0, omega (arith, parts.1, grown))

    -- of the slot's numbers just this one comes
    of_slot : (other : ℕ) → slot_of other ≡ slot_of number → WasGiven other new → (was_given other old ≡ true) ⊎ (Some number ≡ Some other)
    of_slot other same parts =
        let risen = given_same (slot_of number) old are below in
        let counts : given_of new (slot_of other) ≡ given_of new (slot_of number) = ap (given_of new) same in
        let before : given_of old (slot_of other) ≡ given_of old (slot_of number) = ap (given_of old) same in
        elim (cases_eq (generation_of other) (generation_of number)) [
          | inl equal ↦ inr (ap Some (same_number number other (sym same) (sym equal)))
          | inr apart ↦ inl (given_from other old (parts.0, omega (arith, parts.1, risen, counts, before, next.next, apart)))
        ]

    comes : (other : ℕ) → WasGiven other new → (was_given other old ≡ true) ⊎ (Some number ≡ Some other)
    comes other parts = elim (cases_eq (slot_of other) (slot_of number)) [
      | inl same ↦ of_slot other same parts
      | inr apart ↦
          let equal = given_other (slot_of number) (slot_of other) old are below apart in
          inl (given_from other old (parts.0, omega (arith, parts.1, equal)))
    ]

gives_once : (change : ClientChange) (old : Registry) → AreRecords old → FitsRecords change old → GivesOnce change old
gives_once changes.Nothing old are fits = gives_none changes.Nothing old refl refl
gives_once (changes.Arrives r) old are fits = gives_newcomer r old are fits
gives_once (changes.Updates r) old are fits = gives_none (changes.Updates r) old refl refl
gives_once (changes.Confirms r) old are fits = gives_none (changes.Confirms r) old refl refl
gives_once (changes.Refreshes r) old are fits = gives_none (changes.Refreshes r) old refl refl
gives_once (changes.Replaces r client) old are fits = gives_none (changes.Replaces r client) old refl refl

pub numbers_come_once : NumbersComeOnce
numbers_come_once = (gives_once, λ client number old. refl)

pub no_number_is_left : NoNumberIsLeft
no_number_is_left registry id are few = (all_live id registry are few, none_chosen id registry are)
