-- The numbers of a slot: its last one, and the next.
use Rattle.std.proofs.Common.{◌≡◌, ℕ, zero, suc, ◌+◌, ◌<◌, ◌≤◌, Bool, true, false, not, cond, nat_lt, ◌==◌, List, [], ◌∷◌, filter, length, slice_index, slice_set, refl, sym, ap, ◌∙◌, subst, arith}
use Rattle.std.specs.List.{AllByRecursion, list_any}
use Rattle.std.proofs.lemmas.Bool.{and_from, and_parts, eq-eqb, eqb-false, eqb-true, lt-ltb, ltb-true, ne_eqb}
use Rattle.std.proofs.lemmas.Grind.{common_steps}
use Rattle.nfs_rows.proofs.Each.{all_at, drop_none}
use Rattle.nfs_owners.specs.Choice.{IsNextNumber, has_slot, is_live_slot, without_unconfirmed_of}
use Rattle.nfs_owners.specs.ClientChange.{with_newcomer}
use Rattle.nfs_owners.specs.Registry.{AreRecords, HasOwnNumber, HaveValues, Registry, given_of, is_last_given, is_live, is_of_client, takes_number, without_number}
use Rattle.nfs_owners.specs.Slots.{generation_of, slot_of}
use Rattle.nfs_owners.specs.declared.client_record.ClientRecord.{ClientRecord}
use Rattle.nfs_owners.specs.declared.slots.TheConstants.{SLOTS}
use Rattle.nfs_owners.proofs.Lists.{all_both, all_weaken, any_agree, filter_agree, none_dropped, none_each, none_narrower}
use Rattle.nfs_owners.proofs.ClientLists.{records_unconfirmed}

-- of the numbers of its slot that were given, this one was the last
pub record IsLast (number : ℕ) (registry : Registry) : Type 0 where
  pub slot : 0 < slot_of number
  pub count : generation_of number + 1 ≡ given_of registry (slot_of number)

pub last_of : (number : ℕ) (registry : Registry) → is_last_given number registry ≡ true → IsLast number registry
last_of number registry given =
    let count : ℕ = given_of registry (slot_of number) in
    let parts = and_parts (nat_lt 0 (slot_of number)) (generation_of number + 1 == count) given in
    record { slot = ltb-true 0 (slot_of number) parts.0; count = eqb-true (generation_of number + 1) count parts.1 }

last_from : (number : ℕ) (registry : Registry) → IsLast number registry → is_last_given number registry ≡ true
last_from number registry last =
    let count : ℕ = given_of registry (slot_of number) in
    and_from (nat_lt 0 (slot_of number)) (generation_of number + 1 == count) (lt-ltb 0 (slot_of number) last.slot) (eq-eqb (generation_of number + 1) count last.count)

pub last_own : (registry : Registry) (r : ClientRecord) → HasOwnNumber registry r → IsLast r.state.client.number registry
last_own registry r own = last_of r.state.client.number registry own.0

-- Of each slot one number was the last.

pub one_last : (a b : ℕ) (registry : Registry) → IsLast a registry → IsLast b registry → slot_of a ≡ slot_of b → a ≡ b
one_last a b registry first second slots =
    let counts : given_of registry (slot_of a) ≡ given_of registry (slot_of b) = ap (given_of registry) slots in
    omega (arith, slots, counts, first.count, second.count)

slot_tells : (a b : ℕ) (registry : Registry) → IsLast a registry → IsLast b registry → (slot_of a == slot_of b) ≡ (a == b)
slot_tells a b registry first second = by (a == b) refl
  where
    by : (c : Bool) → (a == b) ≡ c → (slot_of a == slot_of b) ≡ c
    by true same = eq-eqb (slot_of a) (slot_of b) (ap slot_of (eqb-true a b same))
    by false differs = ne_eqb (slot_of a) (slot_of b) (λ slots. eqb-false a b differs (one_last a b registry first second slots))

-- So a client is live in the slot of a last number where that number's client is.
pub live_in_slot : (number : ℕ) (registry : Registry) → AreRecords registry → IsLast number registry → is_live_slot registry (slot_of number) ≡ is_live number registry
live_in_slot number registry are last =
    any_agree (has_slot (slot_of number)) (is_of_client number) registry.confirmed
    (all_weaken (HasOwnNumber registry) (λ r. has_slot (slot_of number) r ≡ is_of_client number r)
    (λ r own. slot_tells r.state.client.number number registry (last_own registry r own) last) registry.confirmed are.confirmed_numbers)

-- The unconfirmed record of the slot whose next number is given has the slot's last number.

pub vacated : (next last : ℕ) (registry : Registry) → AreRecords registry → IsNextNumber next registry → next ≡ last + SLOTS
    → without_number last registry.unconfirmed ≡ filter (λ r. not (has_slot (slot_of next) r)) registry.unconfirmed
vacated next last registry are is before =
    let slots : slot_of last ≡ slot_of next = omega (arith, before) in
    let counts : given_of registry (slot_of last) ≡ given_of registry (slot_of next) = ap (given_of registry) slots in
    let was : IsLast last registry = record { slot = subst (λ s. 0 < s) (sym slots) is.is_number; count = omega (arith, before, counts, is.next) } in
    filter_agree (is_of_client last) (has_slot (slot_of next)) registry.unconfirmed
    (all_weaken (HasOwnNumber registry) (λ r. is_of_client last r ≡ has_slot (slot_of next) r)
    (λ r own. sym (slot_tells r.state.client.number last registry (last_own registry r own) was) ∙ ap (λ s. slot_of r.state.client.number == s) slots)
    registry.unconfirmed are.unconfirmed_numbers)

pub vacant : (next : ℕ) (registry : Registry) → AreRecords registry → IsNextNumber next registry → next < SLOTS
    → registry.unconfirmed ≡ filter (λ r. not (has_slot (slot_of next) r)) registry.unconfirmed
vacant next registry are is first =
    sym (drop_none (has_slot (slot_of next)) registry.unconfirmed
    (all_weaken (HasOwnNumber registry) (λ r. has_slot (slot_of next) r ≡ false)
    (λ r own. ne_eqb (slot_of r.state.client.number) (slot_of next) (none_yet r (last_own registry r own))) registry.unconfirmed are.unconfirmed_numbers))
  where
    none_yet : (r : ClientRecord) → IsLast r.state.client.number registry → slot_of r.state.client.number ≡ slot_of next → ⊥
    none_yet r last slots =
        let counts : given_of registry (slot_of r.state.client.number) ≡ given_of registry (slot_of next) = ap (given_of registry) slots in
        omega (arith, first, counts, last.count, is.next)

-- One more number of a slot is given.

pub count_after : (given : List ℕ) (slot count other : ℕ) → slot < length given → slice_index (slice_set given slot count) other ≡ cond (other == slot) count (slice_index given other)
count_after given slot count other low = grind (arith, common_steps)

length_after : (given : List ℕ) (slot count : ℕ) → length (slice_set given slot count) ≡ length given
length_after given slot count = grind (arith, common_steps)

all_after : (P : ℕ → Type 0) (given : List ℕ) (slot count : ℕ) → AllByRecursion P given → P count → AllByRecursion P (slice_set given slot count)
all_after P [] slot count h new = tt
all_after P (x ∷ given) zero count h new = (new, h.1)
all_after P (x ∷ given) (suc slot) count h new = (h.0, all_after P given slot count h.1 new)

pub low : (slot : ℕ) (registry : Registry) → AreRecords registry → slot < SLOTS → slot < length registry.given
low slot registry are below = omega (arith, are.slots, below)

pub within_values : (slot : ℕ) (registry : Registry) → AreRecords registry → slot < SLOTS → given_of registry slot ≤ registry.last_confirm
within_values slot registry are below = all_at (λ count. count ≤ registry.last_confirm) registry.given slot 0 are.values (low slot registry are below)

-- the registry with one more number of a slot that was given, and one more confirm value
abbrev pub with_one_more : ℕ → Registry → Registry
with_one_more slot old = record old {
  given = slice_set old.given slot (given_of old slot + 1);
  last_confirm = old.last_confirm + 1;
}

pub given_same : (slot : ℕ) (old : Registry) → AreRecords old → slot < SLOTS → given_of (with_one_more slot old) slot ≡ given_of old slot + 1
given_same slot old are below =
    count_after old.given slot (given_of old slot + 1) slot (low slot old are below)
    ∙ ap (λ b. cond b (given_of old slot + 1) (given_of old slot)) (eq-eqb slot slot refl)

pub given_other : (slot other : ℕ) (old : Registry) → AreRecords old → slot < SLOTS → (other ≡ slot → ⊥) → given_of (with_one_more slot old) other ≡ given_of old other
given_other slot other old are below apart =
    count_after old.given slot (given_of old slot + 1) other (low slot old are below)
    ∙ ap (λ b. cond b (given_of old slot + 1) (given_of old other)) (ne_eqb other slot apart)

-- Where no record has the slot, each keeps its number.

module _ (slot : ℕ) (old : Registry) (are : AreRecords old) (below : slot < SLOTS) where
  abbrev HasOther : ClientRecord → Type 0
  HasOther s = HasOwnNumber old s × (has_slot slot s ≡ false)

  keeps_own : (s : ClientRecord) → HasOther s → HasOwnNumber (with_one_more slot old) s
  keeps_own s h =
      let number = s.state.client.number in
      let last = last_own old s h.0 in (
        last_from number (with_one_more slot old) (record {
          slot = last.slot;
          count = last.count ∙ sym (given_other slot (slot_of number) old are below (eqb-false (slot_of number) slot h.1));
        }),
        h.0.1,
        h.0.2,
      )

  values_raised : HaveValues (with_one_more slot old)
  values_raised =
      let within = within_values slot old are below in
      all_after (λ count. count ≤ old.last_confirm + 1) old.given slot (given_of old slot + 1)
      (all_weaken (λ count. count ≤ old.last_confirm) (λ count. count ≤ old.last_confirm + 1) (λ count less. omega (arith, less)) old.given are.values) (omega (arith, within))

  records_raised : list_any (has_slot slot) old.confirmed ≡ false → list_any (has_slot slot) old.unconfirmed ≡ false → AreRecords (with_one_more slot old)
  records_raised none_live none_waits = record {
    slots = length_after old.given slot (given_of old slot + 1) ∙ are.slots;
    values = values_raised;
    confirmed = are.confirmed;
    unconfirmed = are.unconfirmed;
    confirmed_numbers = all_weaken HasOther (HasOwnNumber (with_one_more slot old)) keeps_own old.confirmed
        (all_both (HasOwnNumber old) (λ s. has_slot slot s ≡ false) old.confirmed are.confirmed_numbers (none_each (has_slot slot) old.confirmed none_live));
    unconfirmed_numbers = all_weaken HasOther (HasOwnNumber (with_one_more slot old)) keeps_own old.unconfirmed
        (all_both (HasOwnNumber old) (λ s. has_slot slot s ≡ false) old.unconfirmed are.unconfirmed_numbers (none_each (has_slot slot) old.unconfirmed none_waits));
  }

-- none takes a number of a slot that none has
none_takes : (id : List ℕ) (number : ℕ) (records : List ClientRecord) → list_any (has_slot (slot_of number)) records ≡ false → list_any (takes_number id number) records ≡ false
none_takes id number =
    none_narrower (has_slot (slot_of number)) (takes_number id number)
    (λ s takes. eq-eqb (slot_of s.state.client.number) (slot_of number) (ap slot_of (eqb-true s.state.client.number number (and_parts (is_of_client number s) _ takes).0)))

-- A newcomer comes.

pub newcomer_takes_none : (r : ClientRecord) (old : Registry)
    → list_any (takes_number r.id r.state.client.number) (without_unconfirmed_of (slot_of r.state.client.number) old).unconfirmed ≡ false
newcomer_takes_none r old =
    let slot = slot_of r.state.client.number in
    none_takes r.id r.state.client.number (without_unconfirmed_of slot old).unconfirmed (none_dropped (has_slot slot) old.unconfirmed)

-- once the record of its slot has gone
pub records_newcomer : (r : ClientRecord) (old : Registry) → AreRecords (without_unconfirmed_of (slot_of r.state.client.number) old) → IsNextNumber r.state.client.number old → AreRecords (with_newcomer r old)
records_newcomer r old are is =
    let number : ℕ = r.state.client.number in
    let slot : ℕ = slot_of number in
    let below : slot < SLOTS = omega arith in
    let left : Registry = without_unconfirmed_of slot old in
    let raised = records_raised slot left are below is.alone (none_dropped (has_slot slot) old.unconfirmed) in
    let counted : generation_of number + 1 ≡ given_of (with_one_more slot left) slot = ap (λ n. n + 1) is.next ∙ sym (given_same slot left are below) in
    records_unconfirmed r (with_one_more slot left) raised (
      last_from number (with_one_more slot left) (record { slot = is.is_number; count = counted }),
      none_takes r.id number old.confirmed is.alone,
      newcomer_takes_none r old,
    )
