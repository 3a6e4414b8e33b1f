-- Clients' numbers by slots and generations, and the counts of what was given of each slot.
use Rattle.std.proofs.Common.{◌≡◌, ◌≢◌, inl, inr, ℕ, zero, suc, Bool, true, List, [], ◌∷◌, length, slice_index, slice_set, sym, ap, ◌∙◌, subst, arith}
use Rattle.std.specs.Prelude.{◌+◌, ◌<◌, ◌≤◌, ◌&&◌, ◌==◌, nat_lt}
use Rattle.std.specs.List.{AllByRecursion}
use Rattle.std.proofs.lemmas.Bool.{and_from, and_parts, cases_Bool, eqb-false, eqb-true, lt-ltb, ltb-true}
use Rattle.std.proofs.lemmas.List.{get_or-set_other, get_or-set_same}
use Rattle.nfs_owners.specs.Slots.{generation_of, number_of, slot_of}
use Rattle.nfs_owners.specs.declared.slots.TheConstants.{SLOTS}

pub slot_below : (number : ℕ) → slot_of number < SLOTS
slot_below number = omega arith

-- a number is told by its slot and its generation
same_number : (a b : ℕ) → slot_of a ≡ slot_of b → generation_of a ≡ generation_of b → a ≡ b
same_number a b slots generations = omega (arith, slots, generations)

pub slot_is : (slot generation : ℕ) → slot < SLOTS → slot_of (number_of slot generation) ≡ slot
slot_is slot generation below = omega arith

pub generation_is : (slot generation : ℕ) → slot < SLOTS → generation_of (number_of slot generation) ≡ generation
generation_is slot generation below = omega arith

-- How many numbers of each slot were given, when one more of this slot was.
abbrev pub counted : List ℕ → ℕ → List ℕ
counted given slot = slice_set given slot (slice_index given slot + 1)

counted_here : (given : List ℕ) (slot : ℕ) → slot < length given → slice_index (counted given slot) slot ≡ slice_index given slot + 1
counted_here given slot there = get_or-set_same given slot (slice_index given slot + 1) 0 there

counted_elsewhere : (given : List ℕ) (slot other : ℕ) → other ≢ slot → slice_index (counted given slot) other ≡ slice_index given other
counted_elsewhere given slot other apart = get_or-set_other given slot other (slice_index given slot + 1) 0 apart

-- no count falls
never_less : (given : List ℕ) (slot other : ℕ) → slot < length given → slice_index given other ≤ slice_index (counted given slot) other
never_less given slot other there = elim (cases_Bool (other == slot)) [
  | inl same ↦ subst (λ n. slice_index given n ≤ slice_index (counted given slot) n) (sym (eqb-true other slot same)) (omega (arith, counted_here given slot there))
  | inr apart ↦ omega (arith, counted_elsewhere given slot other (eqb-false other slot apart))
]

-- each count is within what all of them are
pub count_within : (limit : ℕ) (counts : List ℕ) (slot : ℕ) → AllByRecursion (λ count. count ≤ limit) counts → slice_index counts slot ≤ limit
count_within limit [] slot h = omega arith
count_within limit (count ∷ counts) zero h = h.0
count_within limit (count ∷ counts) (suc slot) h = count_within limit counts slot h.1

-- the number was given
abbrev is_given : List ℕ → ℕ → Bool
is_given given number = nat_lt 0 (slot_of number) && nat_lt (generation_of number) (slice_index given (slot_of number))

-- of the numbers of its slot, this one was given last
abbrev pub IsLastOf : List ℕ → ℕ → Type 0
IsLastOf given number = (0 < slot_of number) × (generation_of number + 1 ≡ slice_index given (slot_of number))

pub last_is_given : (given : List ℕ) (number : ℕ) → IsLastOf given number → is_given given number ≡ true
last_is_given given number last =
    let count = slice_index given (slot_of number) in
    and_from (nat_lt 0 (slot_of number)) (nat_lt (generation_of number) count) (lt-ltb 0 (slot_of number) last.0) (lt-ltb (generation_of number) count (omega (arith, last.1)))

-- a slot has one number that was given last
pub same_last : (given : List ℕ) (a b : ℕ) → IsLastOf given a → IsLastOf given b → slot_of a ≡ slot_of b → a ≡ b
same_last given a b last other slots =
    same_number a b slots (omega (arith, last.1, other.1, ap (slice_index given) slots))

pub last_elsewhere : (given : List ℕ) (slot number : ℕ) → slot_of number ≢ slot → IsLastOf given number → IsLastOf (counted given slot) number
last_elsewhere given slot number apart last =
    (last.0, last.1 ∙ sym (counted_elsewhere given slot (slot_of number) apart))

-- the next number is given
pub last_here : (given : List ℕ) (number : ℕ) → slot_of number < length given → 0 < slot_of number → generation_of number ≡ slice_index given (slot_of number) → IsLastOf (counted given (slot_of number)) number
last_here given number there some next =
    (some, ap (λ n. n + 1) next ∙ sym (counted_here given (slot_of number) there))

-- it wasn't before
pub next_is_new : (given : List ℕ) (number other : ℕ) → generation_of number ≡ slice_index given (slot_of number) → is_given given other ≡ true → other ≡ number → ⊥
next_is_new given number other next was_given same =
    let count = slice_index given (slot_of other) in
    let below = ltb-true (generation_of other) count (and_parts (nat_lt 0 (slot_of other)) (nat_lt (generation_of other) count) was_given).1 in
    omega (arith, below, ap generation_of same, ap (λ n. slice_index given (slot_of n)) same, next)

-- what was given stays given
pub still_given : (given : List ℕ) (slot number : ℕ) → slot < length given → is_given given number ≡ true → is_given (counted given slot) number ≡ true
still_given given slot number there was_given =
    let own = slot_of number in
    let both = and_parts (nat_lt 0 own) (nat_lt (generation_of number) (slice_index given own)) was_given in
    and_from (nat_lt 0 own) (nat_lt (generation_of number) (slice_index (counted given slot) own)) both.0
    (lt-ltb (generation_of number) (slice_index (counted given slot) own)
    (omega (arith, ltb-true (generation_of number) (slice_index given own) both.1, never_less given slot own there)))
