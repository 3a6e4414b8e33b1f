-- Lock states that are compatible stay so.
use Rattle.std.proofs.Common.{inl, inr, ◌≡◌, ℕ, ◌⊎◌, ◌==◌, nat_le, Bool, true, false, ◌&&◌, not, cond, List, [], Some, None, Option, refl, sym, ◌∙◌, ap}
use Rattle.std.specs.List.{AllByRecursion}
use Rattle.std.specs.Str.{bytes_eq}
use Rattle.std.proofs.lemmas.Bool.{and_from, and_parts, cases_Bool, cond_both, eq-eqb, eqb-true, leb-true, or_cases, or_left, or_right}
use Rattle.std.proofs.lemmas.Slice.Eq.{bytes_eq-Decides}
use Rattle.nfs_forms.specs.ClientId.{is_same_client}
use Rattle.nfs_forms.specs.LockOwner.{is_same_lock_owner}
use Rattle.nfs_forms.specs.declared.lock_owner.LockOwner.{LockOwner}
use Rattle.nfs_locks.specs.Laws.{AllLocksAreCompatible, IsFreeFor, IsFreeIn, are_compatible, may_both}
use Rattle.nfs_locks.specs.Locks.{ByteLocks, after_change, first_state, is_lock_of, is_numbered, with_first_lock, with_lock_change, without}
use Rattle.nfs_locks.specs.Report.{refuses}
use Rattle.nfs_locks.specs.declared.first_lock.FirstLock.{FirstLock}
use Rattle.nfs_locks.proofs.Elements.{all_always, all_both, all_weaken, pairs_filter, pairs_map, pairs_push}
use Rattle.nfs_ranges.specs.Bytes.{IsIn, has}
use Rattle.nfs_ranges.specs.Modes.{with_change, conflicts, modes_of}
use Rattle.nfs_ranges.specs.declared.mode.Mode.{Mode}
use Rattle.nfs_ranges.specs.declared.mode.Mode.TheVariants.{Read, Write}
use Rattle.nfs_ranges.specs.declared.piece.Piece.{Piece}
use Rattle.nfs_ranges.specs.declared.range.Range.{Range}

-- two owners that are the same are equal
pub equal_owners : (a b : LockOwner) → is_same_lock_owner a b ≡ true → a ≡ b
equal_owners a b same =
    let both = and_parts (is_same_client a.client b.client) (bytes_eq a.name b.name) same in
    let client = and_parts (a.client.epoch == b.client.epoch) (a.client.number == b.client.number) both.0 in
    let epoch = eqb-true a.client.epoch b.client.epoch client.0 in
    let number = eqb-true a.client.number b.client.number client.1 in
    let name = (bytes_eq-Decides a.name b.name).0 both.1 in
    λ i. record { client = record { epoch = epoch i; number = number i }; name = name i }

eqb_self : (n : ℕ) → (n == n) ≡ true
eqb_self n = eq-eqb n n refl

pub same_self : (a : LockOwner) → is_same_lock_owner a a ≡ true
same_self a =
    and_from (is_same_client a.client a.client) (bytes_eq a.name a.name)
    (and_from (a.client.epoch == a.client.epoch) (a.client.number == a.client.number) (eqb_self a.client.epoch) (eqb_self a.client.number))
    ((bytes_eq-Decides a.name a.name).1 refl)

-- lock states of one owner are compatible
of_one_owner : (byte : ℕ) (owner : LockOwner) (a b : ByteLocks) → is_lock_of owner a ≡ true → is_lock_of owner b ≡ true
    → are_compatible byte a b ≡ true
of_one_owner byte owner a b mine too =
    or_left (is_lock_of a.owner b) (may_both (a.modes byte) (b.modes byte))
    (ap (λ o. is_lock_of o b) (equal_owners a.owner owner mine) ∙ too)

conflicts_comm : (a b : Mode) → conflicts a (Some b) ≡ conflicts b (Some a)
conflicts_comm Read Read = refl
conflicts_comm Read Write = refl
conflicts_comm Write Read = refl
conflicts_comm Write Write = refl

may_both_comm : (a b : Option Mode) → may_both a b ≡ may_both b a
may_both_comm None None = refl
may_both_comm None (Some b) = refl
may_both_comm (Some a) None = refl
may_both_comm (Some a) (Some b) = ap not (conflicts_comm a b)

compatible_comm : (byte : ℕ) (a b : ByteLocks) → are_compatible byte a b ≡ true → are_compatible byte b a ≡ true
compatible_comm byte a b h =
    elim (or_cases (is_lock_of a.owner b) (may_both (a.modes byte) (b.modes byte)) h) [
      | inl same ↦ of_one_owner byte a.owner b a same (same_self a.owner)
      | inr both ↦ or_right (is_lock_of b.owner a) (may_both (b.modes byte) (a.modes byte)) (may_both_comm (b.modes byte) (a.modes byte) ∙ both)
    ]

-- What is asked of a lock state for another one's change in a mode: the owner has it, or the two modes may be.
abbrev IsClearOf : LockOwner → Option Mode → Range → ℕ → ByteLocks → Type 0
IsClearOf owner mode range byte l =
    has range byte ≡ true → (is_lock_of owner l ≡ true) ⊎ (may_both mode (l.modes byte) ≡ true)

free_at : (owner : LockOwner) (mode : Option Mode) (range : Range) (locks : List ByteLocks) (byte : ℕ)
    → IsFreeIn owner mode range locks → AllByRecursion (IsClearOf owner mode range byte) locks
free_at owner None range locks byte free = all_always (IsClearOf owner None range byte) (λ l _. inr refl) locks
free_at owner (Some mode) range locks byte free =
    all_weaken (λ l. (byte : ℕ) → IsIn range byte → refuses owner mode byte l ≡ false) (IsClearOf owner (Some mode) range byte)
    (λ l none inside.
    let ends = and_parts (nat_le range.first byte) (nat_le byte range.last) inside in
    let no = none byte (leb-true range.first byte ends.0, leb-true byte range.last ends.1) in
    elim (cases_Bool (is_lock_of owner l)) [
      | inl same ↦ inl same
      | inr other ↦ inr (ap not (sym (ap (λ own. not own && conflicts mode (l.modes byte)) other) ∙ no))
    ])
    locks free

-- a lock state with the modes of a change, beside another one
beside : (byte : ℕ) (owner : LockOwner) (change : Piece) (a b x : ByteLocks) → is_lock_of owner x ≡ true
    → x.modes byte ≡ with_change change a.modes byte → IsClearOf owner change.mode change.range byte b
    → (is_lock_of owner b ≡ true) ⊎ (may_both (a.modes byte) (b.modes byte) ≡ true) → are_compatible byte x b ≡ true
beside byte owner change a b x mine is clear before =
    let ok : (is_lock_of owner b ≡ true) ⊎ (may_both (x.modes byte) (b.modes byte) ≡ true) → are_compatible byte x b ≡ true =
    λ h. elim h [
      | inl same ↦ of_one_owner byte owner x b mine same
      | inr both ↦ or_right (is_lock_of x.owner b) (may_both (x.modes byte) (b.modes byte)) both
    ] in
    ok (rw is (cond_both (has change.range byte) change.mode (a.modes byte)
    (λ mode. (is_lock_of owner b ≡ true) ⊎ (may_both mode (b.modes byte) ≡ true)) clear (λ _. before)))

pub beginning : (first : FirstLock) (number : ℕ) (locks : List ByteLocks) → AllLocksAreCompatible locks
    → IsFreeFor first.owner first.change locks → AllLocksAreCompatible (with_first_lock first number locks)
beginning first number locks all free = λ byte.
    let x = first_state first number in
    let none : ByteLocks = record x { modes = modes_of [] } in
    let after : AllByRecursion (λ b. are_compatible byte x b ≡ true) locks =
    all_weaken (IsClearOf first.owner first.change.mode first.change.range byte) (λ b. are_compatible byte x b ≡ true)
    (λ b clear. beside byte first.owner first.change none b x (same_self first.owner) refl clear (inr refl)) locks
    (free_at first.owner first.change.mode first.change.range locks byte free) in
    pairs_push (λ a b. are_compatible byte a b ≡ true) locks x (all byte)
    (all_weaken (λ b. are_compatible byte x b ≡ true) (λ b. are_compatible byte b x ≡ true) (λ b. compatible_comm byte x b) locks after)
    after (of_one_owner byte first.owner x x (same_self first.owner) (same_self first.owner))

module _ (number : ℕ) (change : Piece) (owner : LockOwner) (byte : ℕ) where
  abbrev IsFit : ByteLocks → Type 0
  IsFit l = (is_numbered number l ≡ true → is_lock_of owner l ≡ true) × IsClearOf owner change.mode change.range byte l

  one_changed : (a b : ByteLocks) → is_lock_of owner a ≡ true → IsClearOf owner change.mode change.range byte b
      → are_compatible byte a b ≡ true → are_compatible byte (after_change change a) b ≡ true
  one_changed a b mine clear h =
      beside byte owner change a b (after_change change a) mine refl clear
      (elim (or_cases (is_lock_of a.owner b) (may_both (a.modes byte) (b.modes byte)) h) [
        | inl same ↦ inl (sym (ap (λ o. is_lock_of o b) (equal_owners a.owner owner mine)) ∙ same)
        | inr both ↦ inr both
      ])

  change_keeps : (a b : ByteLocks) → IsFit a → IsFit b → are_compatible byte a b ≡ true
      → are_compatible byte (cond (is_numbered number a) (after_change change a) a) (cond (is_numbered number b) (after_change change b) b) ≡ true
  change_keeps a b fit too h =
      cond_both (is_numbered number a) (after_change change a) a (λ x. are_compatible byte x (cond (is_numbered number b) (after_change change b) b) ≡ true)
      (λ here. cond_both (is_numbered number b) (after_change change b) b (λ y. are_compatible byte (after_change change a) y ≡ true)
      (λ there. of_one_owner byte owner (after_change change a) (after_change change b) (fit.0 here) (too.0 there))
      (λ _. one_changed a b (fit.0 here) too.1 h))
      (λ _. cond_both (is_numbered number b) (after_change change b) b (λ y. are_compatible byte a y ≡ true)
      (λ there. compatible_comm byte (after_change change b) a (one_changed b a (too.0 there) fit.1 (compatible_comm byte a b h)))
      (λ _. h))

pub changing : (number : ℕ) (change : Piece) (owner : LockOwner) (locks : List ByteLocks) → AllLocksAreCompatible locks
    → AllByRecursion (λ l. is_numbered number l ≡ true → is_lock_of owner l ≡ true) locks → IsFreeFor owner change locks
    → AllLocksAreCompatible (with_lock_change number change locks)
changing number change owner locks all mine free = λ byte.
    pairs_map (λ a b. are_compatible byte a b ≡ true) (IsFit number change owner byte)
    (λ l. cond (is_numbered number l) (after_change change l) l) (change_keeps number change owner byte) locks
    (all_both (λ l. is_numbered number l ≡ true → is_lock_of owner l ≡ true) (IsClearOf owner change.mode change.range byte) locks mine
    (free_at owner change.mode change.range locks byte free)) (all byte)

pub removing : (test : ByteLocks → Bool) (locks : List ByteLocks) → AllLocksAreCompatible locks → AllLocksAreCompatible (without test locks)
removing test locks all = λ byte. pairs_filter (λ a b. are_compatible byte a b ≡ true) (λ l. not (test l)) locks (all byte)
