-- The number that is chosen for a newcomer is the next one of a slot in which no client is live.
use Rattle.std.proofs.Common.{◌≡◌, inl, inr, ℕ, zero, suc, Bool, true, false, Option, Some, None, List, refl, sym, ap, ◌∙◌, subst, arith}
use Rattle.std.specs.Prelude.{◌+◌, ◌-◌, ◌<◌, ◌≤◌, IfSome, find, not, option_map}
use Rattle.std.specs.List.{list_any, range_with_len}
use Rattle.std.specs.Option.{option_or}
use Rattle.std.proofs.lemmas.Bool.{and_parts, cases_Bool, cond-false, cond-true, eq-eqb, eqb-true, false_from_ne_true, not-true, or_parts}
use Rattle.nfs_core.proofs.LiveLists.{any_weaken}
use Rattle.nfs_core.proofs.SafeLists.{all_filter, all_find}
use Rattle.nfs_core.proofs.Slots.{generation_is, same_last, slot_below, slot_is}
use Rattle.nfs_core.proofs.SoundClients.{EachRecord, HasLastNumber}
use Rattle.nfs_core.proofs.SoundSequences.{never}
use Rattle.nfs_core.proofs.SoundSteps.{CanBeGiven}
use Rattle.nfs_owners.specs.Choice.{choice, client_slots, free_slot, has_number_left, has_slot, is_free, is_in_use, is_live_slot, may_give_way, next_number, slot_to_get, without_replaced}
use Rattle.nfs_owners.specs.Registry.{Registry, given_of, is_live, is_of, is_of_client}
use Rattle.nfs_owners.specs.Slots.{slot_of}
use Rattle.nfs_owners.specs.declared.client_record.ClientRecord.{ClientRecord}
use Rattle.nfs_owners.specs.declared.slots.TheConstants.{SLOTS}

-- Slot 0 aside, the slot is one in which no client is live, and has a number left.
record IsFit (registry : Registry) (slot : ℕ) : Type 0 where
  some : 0 < slot
  below : slot < SLOTS
  alone : is_live_slot registry slot ≡ false
  left : has_number_left registry slot ≡ true

found_in_range : (p : ℕ → Bool) (from count slot : ℕ) → find p (range_with_len from count) ≡ Some slot → (from ≤ slot) × (slot < from + count) × (p slot ≡ true)
found_in_range p from zero slot is = absurd cc
found_in_range p from (suc count) slot is = elim (cases_Bool (p from)) [
  | inl passes ↦
      let same : Some from ≡ Some slot = sym (cond-true (p from) (Some from) (find p (range_with_len (from + 1) count)) passes) ∙ is in
      let equal : from ≡ slot = search same in
      (omega (arith, equal), omega (arith, equal), subst (λ n. p n ≡ true) equal passes)
  | inr fails ↦
      let rest = found_in_range p (from + 1) count slot (sym (cond-false (p from) (Some from) (find p (range_with_len (from + 1) count)) fails) ∙ is) in
      (omega (arith, rest.0), omega (arith, rest.1), rest.2)
]

-- a slot that no record has
free_fit : (registry : Registry) (slot : ℕ) → free_slot registry ≡ Some slot → IsFit registry slot
unfolding client_slots
free_fit registry slot is =
    let found = found_in_range (is_free registry) 1 (SLOTS - 1) slot is in
    let both = and_parts (not (is_in_use registry slot)) (has_number_left registry slot) found.2 in
    let none = or_parts (is_live_slot registry slot) (list_any (has_slot slot) registry.unconfirmed) (not-true (is_in_use registry slot) both.0) in
    record { some = omega (arith, found.0); below = omega (arith, found.1); alone = none.0; left = both.1 }

-- A live client in the slot of a record is the record's client, as both have the last number that was given of it.
alone_beside : (registry : Registry) (r : ClientRecord) → EachRecord (HasLastNumber registry.given) registry → HasLastNumber registry.given r → is_live r.state.client.number registry ≡ false
    → is_live_slot registry (slot_of r.state.client.number) ≡ false
alone_beside registry r lasts last dead =
    let n = r.state.client.number in
    let given = registry.given in
    false_from_ne_true (is_live_slot registry (slot_of n))
    (λ any. never (is_live n registry) dead
    (any_weaken (HasLastNumber given) (has_slot (slot_of n)) (is_of_client n)
    (λ s k same. eq-eqb s.state.client.number n (same_last given s.state.client.number n k last (eqb-true (slot_of s.state.client.number) (slot_of n) same)))
    registry.confirmed lasts.0 any))

-- the slot of a record that gives way
to_get_fit : (registry : Registry) (slot : ℕ) → EachRecord (HasLastNumber registry.given) registry → slot_to_get registry ≡ Some slot → IsFit registry slot
to_get_fit registry slot lasts is = by (find (may_give_way registry) registry.unconfirmed) refl is
  where
    by : (found : Option ClientRecord) → find (may_give_way registry) registry.unconfirmed ≡ found → option_map (λ r. slot_of r.state.client.number) found ≡ Some slot → IsFit registry slot
    by None found same = absurd cc
    by (Some r) found same =
        let n = r.state.client.number in
        let equal : slot_of n ≡ slot = search same in
        let held = all_find (HasLastNumber registry.given) (may_give_way registry) registry.unconfirmed r found lasts.1 in
        let both = and_parts (not (is_live n registry)) (has_number_left registry (slot_of n)) held.1 in
        subst (IsFit registry) equal
        (record {
          some = held.0.0;
          below = slot_below n;
          alone = alone_beside registry r lasts held.0 (not-true (is_live n registry) both.0);
          left = both.1;
        })

fit_next : (registry : Registry) (slot : ℕ) → IsFit registry slot → CanBeGiven (next_number registry slot) registry
fit_next registry slot fit =
    let is : slot_of (next_number registry slot) ≡ slot = slot_is slot (given_of registry slot) fit.below in (
      record {
        is_number = subst (λ n. 0 < n) (sym is) fit.some;
        next = generation_is slot (given_of registry slot) fit.below ∙ ap (given_of registry) (sym is);
        alone = ap (is_live_slot registry) is ∙ fit.alone;
      },
      ap (has_number_left registry) is ∙ fit.left,
    )

-- The id's own unconfirmed record has left by then.

lasts_left : (id : List ℕ) (registry : Registry) → EachRecord (HasLastNumber registry.given) registry → EachRecord (HasLastNumber registry.given) (without_replaced id registry)
lasts_left id registry lasts =
    (lasts.0, all_filter (HasLastNumber registry.given) (HasLastNumber registry.given) (λ r. not (is_of id r)) (λ r last _. last) registry.unconfirmed lasts.1)

left_next : (id : List ℕ) (registry : Registry) (slot : ℕ) → IsFit (without_replaced id registry) slot → CanBeGiven (next_number (without_replaced id registry) slot) registry
left_next id registry slot fit =
    let next = fit_next (without_replaced id registry) slot fit in
    (record { is_number = next.0.is_number; next = next.0.next; alone = next.0.alone }, next.1)

pub chosen_next : (id : List ℕ) (registry : Registry) → EachRecord (HasLastNumber registry.given) registry → IfSome (choice id registry) (λ number. CanBeGiven number registry)
chosen_next id registry lasts = by (free_slot (without_replaced id registry)) (slot_to_get (without_replaced id registry)) refl refl
  where
    by : (free to_get : Option ℕ) → free_slot (without_replaced id registry) ≡ free → slot_to_get (without_replaced id registry) ≡ to_get
        → IfSome (option_map (next_number (without_replaced id registry)) (option_or free to_get)) (λ number. CanBeGiven number registry)
    by (Some slot) to_get is other = left_next id registry slot (free_fit (without_replaced id registry) slot is)
    by None (Some slot) none is = left_next id registry slot (to_get_fit (without_replaced id registry) slot (lasts_left id registry lasts) is)
    by None None none no_other = tt
