-- The choice of a newcomer's number: a next number of a slot in which no client is live.
use Rattle.std.proofs.Common.{◌≡◌, ℕ, zero, suc, ◌+◌, ◌-◌, ◌<◌, ◌≤◌, Bool, true, false, not, cond, ◌&&◌, ◌||◌, List, find, Option, Some, None, option_map, inl, inr, refl, sym, ap, ◌∙◌, subst, arith, true≢false}
use Rattle.std.specs.Prelude.{MatchOption, if◌then◌else◌}
use Rattle.std.specs.List.{AllByRecursion, list_any, range_with_len}
use Rattle.std.specs.Option.{option_or}
use Rattle.std.proofs.lemmas.Bool.{and_from, and_parts, cases_eq, eqb-true, lt-ltb, not-true, not_from_false, or_left, or_parts}
use Rattle.nfs_rows.proofs.Each.{find_none}
use Rattle.nfs_owners.specs.Choice.{IsNextNumber, MarksSlots, can_be_given, choice, chosen_slot, client_slots, free_slot, has_number_left, has_slot, is_free, is_in_use, is_live_slot, may_give_way, next_number, slot_to_get, without_replaced}
use Rattle.nfs_owners.specs.Registry.{AreRecords, HasOwnNumber, Registry, given_of, is_live, is_of, without_id}
use Rattle.nfs_owners.specs.SlotLaws.{AreSlotsLive}
use Rattle.nfs_owners.specs.Slots.{generation_of, slot_of}
use Rattle.nfs_owners.specs.declared.client_record.ClientRecord.{ClientRecord}
use Rattle.nfs_owners.specs.declared.slots.TheConstants.{GENERATIONS, SLOTS}
use Rattle.nfs_owners.proofs.Lists.{all_both, all_find, all_weaken, any_has, find_agree, find_filtered, none_when}
use Rattle.nfs_owners.proofs.ClientLists.{without_unconfirmed}
use Rattle.nfs_owners.proofs.Numbering.{IsLast, last_own, live_in_slot, within_values}

-- The slots of which numbers are given.

all_range : (P : ℕ → Type 0) (from n : ℕ) → ((k : ℕ) → from ≤ k → k < from + n → P k) → AllByRecursion P (range_with_len from n)
all_range P from zero h = tt
all_range P from (suc n) h = (h from (omega arith) (omega arith), all_range P (from + 1) n (λ k above below. h k (omega (arith, above)) (omega (arith, below))))

range_at : (P : ℕ → Type 0) (from n k : ℕ) → AllByRecursion P (range_with_len from n) → from ≤ k → k < from + n → P k
range_at P from zero k h above below = absurd (omega arith)
range_at P from (suc n) k h above below =
    elim (cases_eq from k) [
      | inl same ↦ subst P same h.0
      | inr other ↦ range_at P (from + 1) n k h.1 (omega (arith, other)) (omega arith)
    ]

all_slots : (P : ℕ → Type 0) → ((slot : ℕ) → 0 < slot → slot < SLOTS → P slot) → AllByRecursion P client_slots
unfolding client_slots
all_slots P h = all_range P 1 (SLOTS - 1) (λ slot above below. h slot (omega (arith, above)) (omega (arith, below)))

slots_at : (P : ℕ → Type 0) (slot : ℕ) → AllByRecursion P client_slots → 0 < slot → slot < SLOTS → P slot
unfolding client_slots
slots_at P slot h above below = range_at P 1 (SLOTS - 1) slot h (omega arith) (omega arith)

-- the first slot that passes a test

abbrev pub IsFirst : (ℕ → Bool) → ℕ → ℕ → Option ℕ → Type 0
IsFirst test from to found =
    MatchOption found ((k : ℕ) → from ≤ k → k < to → test k ≡ false) (λ i. (from ≤ i) × (i < to) × (test i ≡ true) × ((k : ℕ) → from ≤ k → k < i → test k ≡ false))

first_in_range : (test : ℕ → Bool) (from n : ℕ) (found : Option ℕ) → IsFirst test from (from + n) found → found ≡ find test (range_with_len from n)
first_in_range test from n None is = sym (find_none test (range_with_len from n) (all_range (λ k. test k ≡ false) from n is))
first_in_range test from zero (Some i) is = absurd (omega (arith, is.0, is.1))
first_in_range test from (suc n) (Some i) is = elim (cases_eq from i) [
  | inl here ↦
      ap Some (sym here) ∙ ap (λ b. cond b (Some from) (find test (range_with_len (from + 1) n))) (sym (subst (λ k. test k ≡ true) (sym here) is.2))
  | inr later ↦
      first_in_range test (from + 1) n (Some i) (omega (arith, is.0, later), omega (arith, is.1), is.2, λ k above below. is.3 k (omega (arith, above)) below)
      ∙ ap (λ b. cond b (Some from) (find test (range_with_len (from + 1) n))) (sym (is.3 from (omega arith) (omega (arith, is.0, later))))
]

pub first_slot : (test : ℕ → Bool) (found : Option ℕ) → IsFirst test 1 SLOTS found → found ≡ find test client_slots
unfolding client_slots
first_slot test found is = first_in_range test 1 (SLOTS - 1) found is

-- By marks of the slots in use the least free one is found.
pub found_free : (used : List Bool) (id : List ℕ) (registry : Registry) → MarksSlots (is_in_use (without_replaced id registry)) used
    → find (can_be_given used registry) client_slots ≡ free_slot (without_replaced id registry)
found_free used id registry marks =
    find_agree (can_be_given used registry) (is_free (without_replaced id registry)) client_slots
    (all_slots (λ slot. can_be_given used registry slot ≡ is_free (without_replaced id registry) slot)
    (λ slot above below. ap (λ mark. not mark && has_number_left registry slot) (marks.1 slot below)))

-- A record gives way where no client is live in its slot.

abbrev pub goes : List ℕ → Registry → ClientRecord → Bool
goes id registry r =
    not (is_of id r) && (not (is_live_slot registry (slot_of r.state.client.number)) && has_number_left registry (slot_of r.state.client.number))

pub found_oldest : (id : List ℕ) (registry : Registry) → AreRecords registry → find (may_give_way registry) (without_id id registry.unconfirmed) ≡ find (goes id registry) registry.unconfirmed
found_oldest id registry are =
    find_filtered (may_give_way registry) (λ r. not (is_of id r)) registry.unconfirmed
    ∙ find_agree (λ r. not (is_of id r) && may_give_way registry r) (goes id registry) registry.unconfirmed
    (all_weaken (HasOwnNumber registry) (λ r. (not (is_of id r) && may_give_way registry r) ≡ goes id registry r)
    (λ r own. ap (λ live. not (is_of id r) && (not live && has_number_left registry (slot_of r.state.client.number))) (sym (live_in_slot r.state.client.number registry are (last_own registry r own))))
    registry.unconfirmed are.unconfirmed_numbers)

-- by marks of the slots in which a client is live
pub goes_by_marks : (live : List Bool) (id : List ℕ) (registry : Registry) (r : ClientRecord) → MarksSlots (is_live_slot registry) live
    → goes id registry r ≡ (not (is_of id r) && can_be_given live registry (slot_of r.state.client.number))
goes_by_marks live id registry r marks =
    let slot : ℕ = slot_of r.state.client.number in
    ap (λ mark. not (is_of id r) && (not mark && has_number_left registry slot)) (sym (marks.1 slot (omega arith)))

-- The slot that is chosen.

pub slot_free : (id : List ℕ) (registry : Registry) (slot : ℕ) → free_slot (without_replaced id registry) ≡ Some slot → chosen_slot id registry ≡ Some slot
slot_free id registry slot free = ap (λ found. option_or found (slot_to_get (without_replaced id registry))) free

pub slot_oldest : (id : List ℕ) (registry : Registry) (oldest : Option ClientRecord) → free_slot (without_replaced id registry) ≡ None → find (may_give_way registry) (without_id id registry.unconfirmed) ≡ oldest
    → chosen_slot id registry ≡ option_map (λ r. slot_of r.state.client.number) oldest
slot_oldest id registry oldest none found =
    ap (λ free. option_or free (slot_to_get (without_replaced id registry))) none ∙ ap (option_map (λ (r : ClientRecord). slot_of r.state.client.number)) found

-- It is a next number, and its slot has a number left.

-- the slot can be given
pub record CanBeGiven (slot : ℕ) (registry : Registry) : Type 0 where
  pub above : 0 < slot
  pub below : slot < SLOTS
  pub alone : is_live_slot registry slot ≡ false
  pub left : has_number_left registry slot ≡ true

slot_is : (slot : ℕ) (registry : Registry) → slot < SLOTS → slot_of (next_number registry slot) ≡ slot
slot_is slot registry below = omega (arith, below)

pub is_next : (slot : ℕ) (registry : Registry) → CanBeGiven slot registry → IsNextNumber (next_number registry slot) registry × (has_number_left registry (slot_of (next_number registry slot)) ≡ true)
is_next slot registry can =
    let same = slot_is slot registry can.below in
    let generation : generation_of (next_number registry slot) ≡ given_of registry slot = omega (arith, can.below) in (
      record {
        is_number = subst (λ s. 0 < s) (sym same) can.above;
        next = generation ∙ ap (given_of registry) (sym same);
        alone = ap (is_live_slot registry) same ∙ can.alone;
      },
      ap (has_number_left registry) same ∙ can.left,
    )

free_can : (id : List ℕ) (registry : Registry) (slot : ℕ) → free_slot (without_replaced id registry) ≡ Some slot → CanBeGiven slot registry
free_can id registry slot found =
    let others = without_replaced id registry in
    let held = all_find (λ s. (0 < s) × (s < SLOTS)) (is_free others) client_slots slot found (all_slots (λ s. (0 < s) × (s < SLOTS)) (λ s above below. (above, below))) in
    let parts = and_parts (not (is_in_use others slot)) (has_number_left others slot) held.1 in
    record {
      above = held.0.0;
      below = held.0.1;
      alone = (or_parts (is_live_slot others slot) (list_any (has_slot slot) others.unconfirmed) (not-true (is_in_use others slot) parts.0)).0;
      left = parts.1;
    }

oldest_can : (id : List ℕ) (registry : Registry) (r : ClientRecord) → AreRecords registry → find (may_give_way registry) (without_id id registry.unconfirmed) ≡ Some r
    → CanBeGiven (slot_of r.state.client.number) registry
oldest_can id registry r are found =
    let number : ℕ = r.state.client.number in
    let held = all_find (HasOwnNumber registry) (goes id registry) registry.unconfirmed r (sym (found_oldest id registry are) ∙ found) are.unconfirmed_numbers in
    let last = last_own registry r held.0 in
    let parts = and_parts (not (is_live_slot registry (slot_of number))) (has_number_left registry (slot_of number)) (and_parts (not (is_of id r)) _ held.1).1 in
    record {
      above = last.slot;
      below = omega arith;
      alone = not-true (is_live_slot registry (slot_of number)) parts.0;
      left = parts.1;
    }

same_slot : (a b : ℕ) → Some a ≡ Some b → a ≡ b
same_slot a b is = cc

pub slot_can : (id : List ℕ) (registry : Registry) (slot : ℕ) → AreRecords registry → chosen_slot id registry ≡ Some slot → CanBeGiven slot registry
slot_can id registry slot are is = by (free_slot (without_replaced id registry)) refl (find (may_give_way registry) (without_id id registry.unconfirmed)) refl
  where
    by : (free : Option ℕ) → free_slot (without_replaced id registry) ≡ free → (oldest : Option ClientRecord) → find (may_give_way registry) (without_id id registry.unconfirmed) ≡ oldest → CanBeGiven slot registry
    by (Some other) free oldest found =
        subst (λ s. CanBeGiven s registry) (same_slot other slot (sym (slot_free id registry other free) ∙ is)) (free_can id registry other free)
    by None free (Some r) found =
        subst (λ s. CanBeGiven s registry) (same_slot (slot_of r.state.client.number) slot (sym (slot_oldest id registry (Some r) free found) ∙ is)) (oldest_can id registry r are found)
    by None free None found = absurd (cc (slot_oldest id registry None free found, is))

-- A newcomer for whom there is a number is refused where the address is too long, and nowhere else.
pub refused_by_address : {A : Type 0} (within : Bool) (f : ℕ → A) (chosen : Option ℕ) (number : ℕ) → Some number ≡ chosen
    → (((if within then option_map f chosen else None) ≡ None) → within ≡ false) × (within ≡ false → (if within then option_map f chosen else None) ≡ None)
refused_by_address within f None number is = absurd (cc)
refused_by_address true f (Some n) number is = (λ none. absurd (cc), λ no. absurd (true≢false no))
refused_by_address false f (Some n) number is = (λ none. refl, λ no. refl)

-- No number is left where a client is live in each slot, as long as none has used up its generations.

all_left : (registry : Registry) (slot : ℕ) → AreRecords registry → registry.last_confirm < GENERATIONS → slot < SLOTS → has_number_left registry slot ≡ true
all_left registry slot are few below =
    let within = within_values slot registry are below in
    lt-ltb (given_of registry slot) GENERATIONS (omega (arith, within, few))

no_free : (id : List ℕ) (registry : Registry) → AreSlotsLive registry → free_slot (without_replaced id registry) ≡ None
no_free id registry live =
    let others = without_replaced id registry in
    find_none (is_free others) client_slots
    (all_slots (λ slot. is_free others slot ≡ false)
    (λ slot above below. ap (λ used. not used && has_number_left others slot) (or_left (is_live_slot others slot) (list_any (has_slot slot) others.unconfirmed) (live slot above below))))

none_goes : (id : List ℕ) (registry : Registry) → AreRecords registry → AreSlotsLive registry → find (may_give_way registry) (without_id id registry.unconfirmed) ≡ None
none_goes id registry are live =
    found_oldest id registry are
    ∙ find_none (goes id registry) registry.unconfirmed
    (all_weaken (HasOwnNumber registry) (λ r. goes id registry r ≡ false) (λ r own. stays r (last_own registry r own)) registry.unconfirmed are.unconfirmed_numbers)
  where
    and_never : (a : Bool) → (a && false) ≡ false
    and_never true = refl
    and_never false = refl

    stays : (r : ClientRecord) → IsLast r.state.client.number registry → goes id registry r ≡ false
    stays r last =
        let slot : ℕ = slot_of r.state.client.number in
        let below : slot < SLOTS = omega arith in
        ap (λ here. not (is_of id r) && (not here && has_number_left registry slot)) (live slot last.slot below) ∙ and_never (not (is_of id r))

pub none_chosen : (id : List ℕ) (registry : Registry) → AreRecords registry → AreSlotsLive registry → choice id registry ≡ None
none_chosen id registry are live = ap (option_map (next_number registry)) (slot_oldest id registry None (no_free id registry live) (none_goes id registry are live))

-- Where no number is chosen, no slot is free, and no record gives way.

none_mapped : (f : ℕ → ℕ) (slot : Option ℕ) → option_map f slot ≡ None → slot ≡ None
none_mapped f None none = refl
none_mapped f (Some slot) none = absurd (cc)

not_chosen : (id : List ℕ) (registry : Registry) → choice id registry ≡ None
    → (free_slot (without_replaced id registry) ≡ None) × (find (may_give_way registry) (without_id id registry.unconfirmed) ≡ None)
not_chosen id registry is = by (free_slot (without_replaced id registry)) refl (find (may_give_way registry) (without_id id registry.unconfirmed)) refl
  where
    none : chosen_slot id registry ≡ None
    none = none_mapped (next_number registry) (chosen_slot id registry) is

    by : (free : Option ℕ) → free_slot (without_replaced id registry) ≡ free → (oldest : Option ClientRecord) → find (may_give_way registry) (without_id id registry.unconfirmed) ≡ oldest
        → (free_slot (without_replaced id registry) ≡ None) × (find (may_give_way registry) (without_id id registry.unconfirmed) ≡ None)
    by (Some slot) free oldest found = absurd (cc (slot_free id registry slot free, none))
    by None free (Some r) found = absurd (cc (slot_oldest id registry (Some r) free found, none))
    by None free None found = (free, found)

pub all_live : (id : List ℕ) (registry : Registry) → AreRecords registry → registry.last_confirm < GENERATIONS → choice id registry ≡ None → AreSlotsLive registry
all_live id registry are few none slot above below = by (is_live_slot registry slot) refl
  where
    others : Registry
    others = without_replaced id registry

    are_others : AreRecords others
    are_others = without_unconfirmed (λ r. not (is_of id r)) registry are

    -- a record that waits in the slot would give way, or the slot be free
    taken : (is_in_use others slot) ≡ true
    taken = by_use (is_in_use others slot) refl
      where
        fails : is_free others slot ≡ false
        fails = slots_at (λ s. is_free others s ≡ false) slot (none_when (is_free others) client_slots (not_chosen id registry none).0) above below

        by_use : (b : Bool) → is_in_use others slot ≡ b → is_in_use others slot ≡ true
        by_use true used = used
        by_use false unused =
            absurd (true≢false (sym (and_from (not (is_in_use others slot)) (has_number_left others slot) (not_from_false (is_in_use others slot) unused) (all_left registry slot are few below)) ∙ fails))

    waits : is_live_slot registry slot ≡ false → list_any (has_slot slot) others.unconfirmed ≡ true
    waits alone = ap (λ live. live || list_any (has_slot slot) others.unconfirmed) (sym alone) ∙ taken

    never : is_live_slot registry slot ≡ false → ⊥
    never alone =
        let P : ClientRecord → Type 0 = λ r. HasOwnNumber others r × (may_give_way registry r ≡ false) in
        let found = any_has P (has_slot slot) others.unconfirmed (waits alone)
        (all_both (HasOwnNumber others) (λ r. may_give_way registry r ≡ false) others.unconfirmed are_others.unconfirmed_numbers (none_when (may_give_way registry) others.unconfirmed (not_chosen id registry none).1)) in
        true≢false (sym (gives_way found.0 (last_own others found.0 found.1.0) (slot_same found.0 found.2)) ∙ found.1.1)
      where
        slot_same : (r : ClientRecord) → has_slot slot r ≡ true → slot_of r.state.client.number ≡ slot
        slot_same r is = eqb-true (slot_of r.state.client.number) slot is

        gives_way : (r : ClientRecord) → IsLast r.state.client.number others → slot_of r.state.client.number ≡ slot → may_give_way registry r ≡ true
        gives_way r last same =
            and_from (not (is_live r.state.client.number registry)) (has_number_left registry (slot_of r.state.client.number))
            (not_from_false (is_live r.state.client.number registry) (sym (live_in_slot r.state.client.number others are_others last) ∙ ap (is_live_slot registry) same ∙ alone))
            (ap (has_number_left registry) same ∙ all_left registry slot are few below)

    by : (b : Bool) → is_live_slot registry slot ≡ b → is_live_slot registry slot ≡ true
    by true live = live
    by false alone = absurd (never alone)
