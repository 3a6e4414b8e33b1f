-- The laws of records that give way.
use Rattle.std.proofs.Common.{◌≡◌, ℕ, ◌<◌, Bool, true, false, not, cond, ◌&&◌, ◌==◌, List, [], ◌∷◌, ◌++◌, Option, Some, None, filter, find, is_some, option_map, inl, inr, refl, sym, ap, ◌∙◌, subst, arith, true≢false}
use Rattle.std.specs.Prelude.{if◌then◌else◌, option_to_list}
use Rattle.std.specs.List.{AllByRecursion, IsDistinct, list_any}
use Rattle.std.proofs.lemmas.Bool.{and_parts, cases_Bool, cond-false, cond-true, eq-eqb, eqb-true, false_from_ne_true, not-true, not_from_false, or_parts}
use Rattle.std.proofs.lemmas.List.{append-nil}
use Rattle.std.proofs.lemmas.List.Elements.{filter-append}
use Rattle.std.proofs.lemmas.Slice.Eq.{bytes_eq-Decides}
use Rattle.nfs_owners.specs.Choice.{chosen_slot, client_slots, free_slot, has_number_left, has_slot, is_free, is_in_use, is_live_slot, may_give_way, next_number, without_replaced}
use Rattle.nfs_owners.specs.Registry.{AreRecords, HasOwnNumber, Registry, have_same_id, is_live, is_of, is_of_client, takes_number, without_id}
use Rattle.nfs_owners.specs.SlotLaws.{OneGivesWay, OthersStay, UpdatesStay, giving_way, is_others_elsewhere, is_others_update}
use Rattle.nfs_owners.specs.Slots.{slot_of}
use Rattle.nfs_owners.specs.declared.client_record.ClientRecord.{ClientRecord}
use Rattle.nfs_owners.specs.declared.slots.TheConstants.{SLOTS}
use Rattle.nfs_owners.proofs.Choosing.{slot_can, slot_free, slot_oldest}
use Rattle.nfs_owners.proofs.ClientLists.{without_unconfirmed}
use Rattle.nfs_owners.proofs.Lists.{all_both, all_find, all_weaken, none_each, none_narrower}
use Rattle.nfs_owners.proofs.Numbering.{last_own, one_last}

module _ {X : Type 0} where
  all_of : (P : X → Type 0) → ((x : X) → P x) → (xs : List X) → AllByRecursion P xs
  all_of P h [] = tt
  all_of P h (x ∷ xs) = (h x, all_of P h xs)

  found_passes : (p : X → Bool) (xs : List X) (x : X) → find p xs ≡ Some x → p x ≡ true
  found_passes p xs x is = (all_find (λ y. p y ≡ p y) p xs x is (all_of (λ y. p y ≡ p y) (λ y. refl) xs)).1

  keep_none : (q : X → Bool) (xs : List X) → AllByRecursion (λ x. q x ≡ false) xs → filter q xs ≡ []
  keep_none q [] none = refl
  keep_none q (x ∷ xs) none = cond-false (q x) (x ∷ filter q xs) (filter q xs) none.0 ∙ keep_none q xs none.1

  -- what passes one test is left where another drops nothing of it
  filter_kept : (p q : X → Bool) → ((x : X) → p x ≡ true → q x ≡ true) → (xs : List X) → filter p (filter q xs) ≡ filter p xs
  filter_kept p q keeps [] = refl
  filter_kept p q keeps (x ∷ xs) = by (q x) refl (filter_kept p q keeps xs)
    where
      by : (b : Bool) → q x ≡ b → filter p (filter q xs) ≡ filter p xs → filter p (cond b (x ∷ filter q xs) (filter q xs)) ≡ cond (p x) (x ∷ filter p xs) (filter p xs)
      by true is rest = ap (λ ys. cond (p x) (x ∷ ys) ys) rest
      by false is rest =
          rest ∙ sym (cond-false (p x) (x ∷ filter p xs) (filter p xs) (false_from_ne_true (p x) (λ has. true≢false (sym (keeps x has) ∙ is))))

  -- Of elements that are apart, those that pass a test are one, where they all are like the one that is found.
  just_one : (e : X → X → Bool) (p q : X → Bool) (w : X) (xs : List X) → find p xs ≡ Some w → q w ≡ true
      → AllByRecursion (λ x. q x ≡ true → (p x ≡ true) × (e w x ≡ true)) xs → IsDistinct e xs → filter q xs ≡ w ∷ []
  unfolding IsDistinct
  just_one e p q w [] found is each apart = absurd (cc)
  just_one e p q w (x ∷ xs) found is each apart = elim (cases_Bool (p x)) [
    | inl passes ↦
        let same : Some x ≡ Some w = sym (cond-true (p x) (Some x) (find p xs) passes) ∙ found in
        let equal : x ≡ w = search same in
        let P : X → Type 0 = λ y. q y ≡ true → (p y ≡ true) × (e w y ≡ true) in
        let others : AllByRecursion (λ y. q y ≡ false) xs = all_weaken (λ y. P y × (e x y ≡ false)) (λ y. q y ≡ false)
        (λ y h. false_from_ne_true (q y) (λ has. true≢false (sym (h.0 has).1 ∙ ap (λ z. e z y) (sym equal) ∙ h.1)))
        xs (all_both P (λ y. e x y ≡ false) xs each.1 apart.0) in
        cond-true (q x) (x ∷ filter q xs) (filter q xs) (subst (λ z. q z ≡ true) (sym equal) is)
        ∙ ap (λ z. z ∷ filter q xs) equal
        ∙ ap (λ ys. w ∷ ys) (keep_none q xs others)
    | inr fails ↦
        cond-false (q x) (x ∷ filter q xs) (filter q xs) (false_from_ne_true (q x) (λ has. true≢false (sym (each.0 has).0 ∙ fails)))
        ∙ just_one e p q w xs (sym (cond-false (p x) (Some x) (find p xs) fails) ∙ found) is each.1 apart.1
  ]

-- a record of one number has the id of the one that takes that number from no other id
own_id : (a b : Bool) → a ≡ true → (a && not b) ≡ false → b ≡ true
own_id true true is h = refl
own_id true false is h = absurd (true≢false h)
own_id false b is h = absurd (true≢false (sym is))

same_id : (r s : ClientRecord) → is_of r.id s ≡ true → have_same_id r s ≡ true
same_id r s is = (bytes_eq-Decides r.id s.id).1 (sym ((bytes_eq-Decides s.id r.id).0 is))

-- Of the records that wait in the slot of one that may give way there is no other.
module _ (registry : Registry) (are : AreRecords registry) (w : ClientRecord) (found : find (may_give_way registry) registry.unconfirmed ≡ Some w) where
  abbrev number : ℕ
  number = w.state.client.number

  own : HasOwnNumber registry w × (may_give_way registry w ≡ true)
  own = all_find (HasOwnNumber registry) (may_give_way registry) registry.unconfirmed w found are.unconfirmed_numbers

  abbrev Beside : ClientRecord → Type 0
  Beside s = HasOwnNumber registry s × (takes_number w.id number s ≡ false)

  like : (s : ClientRecord) → Beside s → has_slot (slot_of number) s ≡ true → (may_give_way registry s ≡ true) × (have_same_id w s ≡ true)
  like s h has =
      let slots : slot_of s.state.client.number ≡ slot_of number = eqb-true (slot_of s.state.client.number) (slot_of number) has in
      let same : s.state.client.number ≡ number = one_last s.state.client.number number registry (last_own registry s h.0) (last_own registry w own.0) slots in (
        subst (λ n. (not (is_live n registry) && has_number_left registry (slot_of n)) ≡ true) (sym same) own.1,
        same_id w s (own_id (is_of_client number s) (is_of w.id s) (eq-eqb s.state.client.number number same) h.1),
      )

  one_waits : filter (has_slot (slot_of number)) registry.unconfirmed ≡ w ∷ []
  one_waits =
      just_one have_same_id (may_give_way registry) (has_slot (slot_of number)) w registry.unconfirmed found (eq-eqb (slot_of number) (slot_of number) refl)
      (all_weaken Beside (λ s. has_slot (slot_of number) s ≡ true → (may_give_way registry s ≡ true) × (have_same_id w s ≡ true)) like registry.unconfirmed
      (all_both (HasOwnNumber registry) (λ s. takes_number w.id number s ≡ false) registry.unconfirmed are.unconfirmed_numbers
      (none_each (takes_number w.id number) registry.unconfirmed own.0.2)))
      are.unconfirmed

pub one_gives_way : OneGivesWay
one_gives_way id registry number are is = by (free_slot others) refl (find (may_give_way registry) others.unconfirmed) refl
  where
    others : Registry
    others = without_replaced id registry

    are_others : AreRecords others
    are_others = without_unconfirmed (λ r. not (is_of id r)) registry are

    of_slot : (slot : ℕ) → chosen_slot id registry ≡ Some slot → slot_of number ≡ slot
    of_slot slot chosen =
        let can = slot_can id registry slot are chosen in
        let below : slot < SLOTS = can.below in
        let next : Some (next_number registry slot) ≡ Some number = sym (ap (option_map (next_number registry)) chosen) ∙ is in
        let equal : next_number registry slot ≡ number = search next in
        let back : slot_of (next_number registry slot) ≡ slot = omega (arith, below) in
        ap slot_of (sym equal) ∙ back

    none_waits : (slot : ℕ) → free_slot others ≡ Some slot → filter (has_slot slot) others.unconfirmed ≡ []
    none_waits slot free =
        let parts = and_parts (not (is_in_use others slot)) (has_number_left others slot) (found_passes (is_free others) client_slots slot free) in
        let none = or_parts (is_live_slot others slot) (list_any (has_slot slot) others.unconfirmed) (not-true (is_in_use others slot) parts.0) in
        keep_none (has_slot slot) others.unconfirmed (none_each (has_slot slot) others.unconfirmed none.1)

    gives : (free : Option ℕ) (oldest : Option ClientRecord) → free_slot others ≡ free → find (may_give_way registry) others.unconfirmed ≡ oldest
        → giving_way id registry ≡ (if is_some free then [] else option_to_list oldest)
    gives free oldest is_free_slot found =
        ap (λ f. if is_some f then [] else option_to_list (find (may_give_way registry) others.unconfirmed)) is_free_slot
        ∙ ap (λ o. if is_some free then [] else option_to_list o) found

    by : (free : Option ℕ) → free_slot others ≡ free → (oldest : Option ClientRecord) → find (may_give_way registry) others.unconfirmed ≡ oldest
        → filter (has_slot (slot_of number)) others.unconfirmed ≡ giving_way id registry
    by (Some slot) free oldest found =
        ap (λ s. filter (has_slot s) others.unconfirmed) (of_slot slot (slot_free id registry slot free))
        ∙ none_waits slot free
        ∙ sym (gives (Some slot) oldest free found)
    by None free (Some w) found =
        ap (λ s. filter (has_slot s) others.unconfirmed) (of_slot (slot_of w.state.client.number) (slot_oldest id registry (Some w) free found))
        ∙ one_waits others are_others w found
        ∙ sym (gives None (Some w) free found)
    by None free None found = absurd (cc (ap (option_map (next_number registry)) (slot_oldest id registry None free found), is))

pub updates_stay : UpdatesStay
updates_stay r old fits =
    filter-append update waiting (r ∷ [])
    ∙ ap (λ rest. filter update waiting ++ rest) (cond-false (update r) (r ∷ []) [] own)
    ∙ append-nil (filter update waiting)
    ∙ filter_kept update (λ s. not (is_of r.id s)) (λ s is. (and_parts (not (is_of r.id s)) (is_live s.state.client.number old) is).0) elsewhere
    ∙ filter_kept update (λ s. not (has_slot slot s)) apart old.unconfirmed
  where
    slot : ℕ
    slot = slot_of r.state.client.number

    update : ClientRecord → Bool
    update = is_others_update r.id old

    elsewhere : List ClientRecord
    elsewhere = filter (λ s. not (has_slot slot s)) old.unconfirmed

    waiting : List ClientRecord
    waiting = without_id r.id elsewhere

    of_itself : is_of r.id r ≡ true
    of_itself = (bytes_eq-Decides r.id r.id).1 refl

    own : update r ≡ false
    own = ap (λ b. not b && is_live r.state.client.number old) of_itself

    dead : (s : ClientRecord) → has_slot slot s ≡ true → is_live s.state.client.number old ≡ false
    dead s has =
        let n = s.state.client.number in
        none_narrower (has_slot slot) (is_of_client n) (λ t is. ap (λ m. slot_of m == slot) (eqb-true t.state.client.number n is) ∙ has) old.confirmed fits.alone

    apart : (s : ClientRecord) → update s ≡ true → not (has_slot slot s) ≡ true
    apart s is =
        not_from_false (has_slot slot s) (false_from_ne_true (has_slot slot s) (λ has. true≢false
        (sym (and_parts (not (is_of r.id s)) (is_live s.state.client.number old) is).1 ∙ dead s has)))

pub others_stay : OthersStay
others_stay r old = (
  filter-append stays waiting (r ∷ [])
      ∙ ap (λ rest. filter stays waiting ++ rest) (cond-false (stays r) (r ∷ []) [] own)
      ∙ append-nil (filter stays waiting)
      ∙ filter_kept stays (λ s. not (is_of r.id s)) (λ s is. (and_parts (not (is_of r.id s)) (not (has_slot slot s)) is).0) elsewhere
      ∙ filter_kept stays (λ s. not (has_slot slot s)) (λ s is. (and_parts (not (is_of r.id s)) (not (has_slot slot s)) is).1) old.unconfirmed,
  refl,
)
  where
    slot : ℕ
    slot = slot_of r.state.client.number

    stays : ClientRecord → Bool
    stays = is_others_elsewhere r

    elsewhere : List ClientRecord
    elsewhere = filter (λ s. not (has_slot slot s)) old.unconfirmed

    waiting : List ClientRecord
    waiting = without_id r.id elsewhere

    of_itself : is_of r.id r ≡ true
    of_itself = (bytes_eq-Decides r.id r.id).1 refl

    own : stays r ≡ false
    own = ap (λ b. not b && not (has_slot slot r)) of_itself
