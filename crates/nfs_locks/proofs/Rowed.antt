-- What the rows of a file say of the lock states in them.
use Rattle.std.proofs.Common.{◌≡◌, ℕ, ◌<◌, ◌==◌, Bool, true, false, ◌&&◌, ◌||◌, cond, List, [], ◌∷◌, ◌++◌, find, map, option_map, Option, Some, None, Result, Ok, Err, refl, sym, ap, ◌∙◌, subst, arith}
use Rattle.std.specs.Borrow.{Bor}
use Rattle.std.specs.List.{AllByRecursion, list_any}
use Rattle.std.specs.Prelude.{OnOk, is_some}
use Rattle.std.specs.declared.hash.RandomState.{RandomState}
use Rattle.std.proofs.lemmas.Bool.{and_parts, eq-eqb, eqb-true, false≢true}
use Rattle.nfs_forms.specs.declared.client_id.ClientId.{ClientId}
use Rattle.nfs_forms.specs.declared.lock_owner.LockOwner.{LockOwner}
use Rattle.nfs_locks.specs.AllLocks.{HasRangeRoom, is_full_for}
use Rattle.nfs_locks.specs.KeptLocks.{AreOfClients, AreRowsOf, IsRowOf, NumbersRise, owner_hash, states_of}
use Rattle.nfs_locks.specs.Locks.{ByteLocks, IsAbove, after_change, is_lock_of, is_lock_of_client, is_numbered, with_lock_change, without, would_be_full}
use Rattle.nfs_locks.specs.StoredLocks.{lock_seen, locks_seen, stored_lock, stored_locks}
use Rattle.nfs_locks.specs.declared.lock_state.LockState.{LockState}
use Rattle.nfs_locks.proofs.Alone.{none_of_any}
use Rattle.nfs_locks.proofs.Compatible.{equal_owners}
use Rattle.nfs_locks.proofs.Elements.{all_found, any_seen}
use Rattle.nfs_locks.proofs.Removing.{none_passes}
use Rattle.nfs_locks.proofs.Setting.{set_all, set_changed, set_each, set_same, unchanged}
use Rattle.nfs_ranges.specs.RoomyRanges.{RoomyRanges}
use Rattle.nfs_ranges.specs.declared.piece.Piece.{Piece}
use Rattle.nfs_rows.specs.Rows.{Row, StandInOrder, is_named, is_numbered as is_row, pair_in, pair_of, pair_seen, value_in, with_value, without as without_rows}
use Rattle.nfs_rows.proofs.Callers.{find_seen, named_is, without_seen}
use Rattle.nfs_rows.proofs.Each.{all_weaken}

-- the lock state has the number
abbrev pub has_number : ℕ → LockState → Bool
has_number number l = is_numbered number (lock_seen l)

-- what is seen of the lock states is seen of the rows
pub seen_rows : {W : Type 0} (seen : LockState → W) (rows : List (Row LockState)) → map seen (states_of rows) ≡ map (λ r. seen r.value) rows
seen_rows seen [] = refl
seen_rows seen (r ∷ rows) = ap (λ more. seen r.value ∷ more) (seen_rows seen rows)

pub all_states : (P : LockState → Type 0) (rows : List (Row LockState)) → AllByRecursion (λ r. P r.value) rows → AllByRecursion P (states_of rows)
all_states P [] h = tt
all_states P (r ∷ rows) h = (h.0, all_states P rows h.1)

pub states_append : (rows more : List (Row LockState)) → locks_seen (states_of (rows ++ more)) ≡ locks_seen (states_of rows) ++ locks_seen (states_of more)
states_append [] more = refl
states_append (r ∷ rows) more = ap (λ locks. lock_seen r.value ∷ locks) (states_append rows more)

-- what is found of the pairs that rows yield
pub any_pair : (test : LockState → Bool) (rows : List (Row LockState)) → list_any (λ (p : ℕ × LockState). test p.1) (map pair_of rows) ≡ list_any test (states_of rows)
any_pair test [] = refl
any_pair test (r ∷ rows) = ap (λ b. test r.value || b) (any_pair test rows)

pub find_pair : (test : LockState → Bool) (rows : List (Row LockState)) → find (λ (p : ℕ × LockState). test p.1) (map pair_of rows) ≡ option_map pair_of (find (λ r. test r.value) rows)
find_pair test [] = refl
find_pair test (r ∷ rows) = by (test r.value) (find_pair test rows)
  where
    by : (b : Bool) → find (λ (p : ℕ × LockState). test p.1) (map pair_of rows) ≡ option_map pair_of (find (λ r. test r.value) rows)
        → cond b (Some (pair_of r)) (find (λ (p : ℕ × LockState). test p.1) (map pair_of rows)) ≡ option_map pair_of (cond b (Some r) (find (λ r. test r.value) rows))
    by true rest = refl
    by false rest = rest

-- the lock states of the rows that are left
pub rows_without : (test : Row LockState → Bool) (other : ByteLocks → Bool) (rows : List (Row LockState)) → AllByRecursion (λ r. test r ≡ other (lock_seen r.value)) rows
    → locks_seen (states_of (without_rows test rows)) ≡ without other (locks_seen (states_of rows))
rows_without test other rows h =
    seen_rows lock_seen (without_rows test rows)
    ∙ without_seen (λ r. lock_seen r.value) test other rows h
    ∙ ap (without other) (sym (seen_rows lock_seen rows))

-- the lock state that has the number has room and place for a change
pub has_room : (number : ℕ) (states : List LockState) (l : LockState) → AllByRecursion (HasRangeRoom number) states → Some l ≡ find (has_number number) states → 0 < l.ranges.room
has_room number states l all found =
    let here = all_found (HasRangeRoom number) (has_number number) states l all (sym found) in
    here.0 (eqb-true l.number number here.1)

pub has_place : (number : ℕ) (change : Piece) (states : List LockState) (l : LockState) → is_full_for number change (locks_seen states) ≡ false → Some l ≡ find (has_number number) states
    → would_be_full change (lock_seen l) ≡ false
has_place number change states l none found =
    let test : LockState → Bool = λ l. has_number number l && would_be_full change (lock_seen l) in
    let all = none_of_any test states (any_seen lock_seen (λ b. is_numbered number b && would_be_full change b) states ∙ none) in
    let here = all_found (λ l. test l ≡ false) (has_number number) states l all (sym found) in
    sym (ap (λ t. t && would_be_full change (lock_seen l)) here.1) ∙ here.0

pub room_of_none : (number : ℕ) (states : List LockState) → find (has_number number) states ≡ None → AllByRecursion (HasRangeRoom number) states
room_of_none number states none =
    all_weaken (λ l. has_number number l ≡ false) (HasRangeRoom number)
    (λ l other is. absurd (false≢true (sym other ∙ eq-eqb l.number number is))) states (none_passes (has_number number) states none)

-- a lock state with other room holds the same
pub same_stored : (l : LockState) (ranges : RoomyRanges) → ranges.pieces ≡ l.ranges.pieces → stored_lock (record l { ranges = ranges }) ≡ stored_lock l
same_stored l ranges same = λ i. record { owner = l.owner; open_number = l.open_number; number = l.number; seqid = l.seqid; pieces = same i }

module _ (names : RandomState) where
  pub numbers : (number : ℕ) (rows : List (Row LockState)) → AreRowsOf names rows → AllByRecursion (λ r. is_row number r ≡ has_number number r.value) rows
  numbers number rows are =
      all_weaken (IsRowOf names) (λ r. is_row number r ≡ has_number number r.value) (λ r is. ap (λ n. n == number) is.numbered) rows are

  -- whatever only lock states of the owner pass, rows with its hash alone pass
  pub hashes : (owner : LockOwner) (test : LockState → Bool) → ((l : LockState) → test l ≡ true → is_lock_of owner (lock_seen l) ≡ true) → (rows : List (Row LockState)) → AreRowsOf names rows
      → AllByRecursion (λ r. test r.value ≡ true → r.hash ≡ owner_hash names owner) rows
  hashes owner test own rows are =
      all_weaken (IsRowOf names) (λ r. test r.value ≡ true → r.hash ≡ owner_hash names owner)
      (λ r is passes. is.hashed ∙ ap (owner_hash names) (equal_owners r.value.owner owner (own r.value passes))) rows are

  pub clients : (client : ClientId) (rows : List (Row LockState)) → AreRowsOf names rows → AllByRecursion (λ r. is_lock_of_client client (lock_seen r.value) ≡ true → r.client ≡ client.number) rows
  clients client rows are =
      all_weaken (IsRowOf names) (λ r. is_lock_of_client client (lock_seen r.value) ≡ true → r.client ≡ client.number)
      (λ r is own. is.of_client ∙ eqb-true r.value.owner.client.number client.number (and_parts (r.value.owner.client.epoch == client.epoch) (r.value.owner.client.number == client.number) own).1) rows are

  pub of_clients : (rows : List (Row LockState)) → AreRowsOf names rows → AreOfClients rows
  of_clients rows are = all_weaken (IsRowOf names) (λ r. r.client ≡ r.value.owner.client.number) (λ r is. is.of_client) rows are

  above_rows : (n m : ℕ) (rows : List (Row LockState)) → n ≡ m → AllByRecursion (λ r. n < r.number) rows → AreRowsOf names rows → AllByRecursion (λ l. m < l.number) (states_of rows)
  above_rows n m [] same h are = tt
  above_rows n m (r ∷ rows) same h are = (omega (arith, same, h.0, are.0.numbered), above_rows n m rows same h.1 are.1)

  pub rise : (rows : List (Row LockState)) → StandInOrder rows → AreRowsOf names rows → NumbersRise (states_of rows)
  rise [] order are = tt
  rise (r ∷ rows) order are = (above_rows r.number r.value.number rows are.0.numbered order.0 are.1, rise rows order.1 are.1)

  -- a number above those of the lock states is above those of the rows
  pub above : (number n : ℕ) (rows : List (Row LockState)) → n ≡ number → AreRowsOf names rows → IsAbove number (locks_seen (states_of rows)) → AllByRecursion (λ r. r.number < n) rows
  above number n [] same are h = tt
  above number n (r ∷ rows) same are h = (omega (arith, same, h.0, are.0.numbered), above number n rows same are.1 h.1)

  -- the lock state of a row that is found by its number
  pub found_in : (number n : ℕ) (rows : List (Row LockState)) → AreRowsOf names rows → n ≡ number → value_in (find (is_row n) rows) ≡ find (has_number number) (states_of rows)
  found_in number n rows are same =
      ap (λ n. value_in (find (is_row n) rows)) same
      ∙ find_seen (λ r. r.value) (is_row number) (has_number number) rows (numbers number rows are)

  -- another value of the lock state that was found, which has its number and its owner
  module _ (number n : ℕ) (v w : LockState) (rows : List (Row LockState)) (are : AreRowsOf names rows) (same : n ≡ number) (order : StandInOrder rows) (found : Some v ≡ value_in (find (is_row n) rows)) where
    pub rows_set : w.number ≡ v.number → w.owner ≡ v.owner → AreRowsOf names (with_value n w rows)
    rows_set number_is owner_is =
        set_all (IsRowOf names) n v w
        (λ r here is. record {
          numbered = is.numbered ∙ ap (λ (l : LockState). l.number) here ∙ sym number_is;
          hashed = is.hashed ∙ ap (λ (l : LockState). owner_hash names l.owner) here ∙ sym (ap (owner_hash names) owner_is);
          of_client = is.of_client ∙ ap (λ (l : LockState). l.owner.client.number) here ∙ sym (ap (λ (o : LockOwner). o.client.number) owner_is);
        }) rows order found are

    tests : AllByRecursion (λ r. is_row n r ≡ is_numbered number (lock_seen r.value)) rows
    tests = subst (λ n. AllByRecursion (λ r. is_row n r ≡ has_number number r.value) rows) (sym same) (numbers number rows are)

    pub rows_changed : (change : Piece) → lock_seen w ≡ after_change change (lock_seen v) → locks_seen (states_of (with_value n w rows)) ≡ with_lock_change number change (locks_seen (states_of rows))
    rows_changed change changed =
        seen_rows lock_seen (with_value n w rows)
        ∙ set_changed lock_seen (is_numbered number) (after_change change) n v w rows order found tests changed
        ∙ ap (with_lock_change number change) (sym (seen_rows lock_seen rows))

    pub rows_stored : stored_lock w ≡ stored_lock v → stored_locks (states_of (with_value n w rows)) ≡ stored_locks (states_of rows)
    rows_stored stored =
        seen_rows stored_lock (with_value n w rows)
        ∙ set_same stored_lock n v w rows order found stored
        ∙ sym (seen_rows stored_lock rows)

    pub rows_room : 0 < w.ranges.room → AllByRecursion (HasRangeRoom number) (states_of (with_value n w rows))
    rows_room room =
        all_states (HasRangeRoom number) (with_value n w rows)
        (set_each (IsRowOf names) (λ r. HasRangeRoom number r.value) n w (λ r _. room)
        (λ r is other here. absurd (false≢true (sym other ∙ eq-eqb r.number n (is.numbered ∙ here ∙ sym same)))) rows are)

  -- where no row has the number, no lock state is changed
  pub rows_unchanged : (number n : ℕ) (change : Piece) (rows : List (Row LockState)) → AreRowsOf names rows → n ≡ number → None ≡ value_in (find (is_row n) rows)
      → locks_seen (states_of rows) ≡ with_lock_change number change (locks_seen (states_of rows))
  rows_unchanged number n change rows are same none =
      seen_rows lock_seen rows
      ∙ sym (unchanged lock_seen (is_numbered number) (after_change change) number rows (numbers number rows are)
      (all_weaken (λ r. (is_row number r ≡ has_number number r.value) × (has_number number r.value ≡ false)) (λ r. is_row number r ≡ false) (λ r both. both.0 ∙ both.1) rows
      (both_of rows (numbers number rows are) (none_passes (has_number number) (states_of rows) (sym (none ∙ found_in number n rows are same))))))
      ∙ ap (with_lock_change number change) (sym (seen_rows lock_seen rows))
    where
      both_of : (rows : List (Row LockState)) → AllByRecursion (λ r. is_row number r ≡ has_number number r.value) rows → AllByRecursion (λ l. has_number number l ≡ false) (states_of rows)
          → AllByRecursion (λ r. (is_row number r ≡ has_number number r.value) × (has_number number r.value ≡ false)) rows
      both_of [] a b = tt
      both_of (r ∷ rows) a b = ((a.0, b.0), both_of rows a.1 b.1)

  -- the lock state of a row that is found by the hash of its owner
  pub named_in : (owner : LockOwner) (test : LockState → Bool) → ((l : LockState) → test l ≡ true → is_lock_of owner (lock_seen l) ≡ true)
      → (hash : ℕ) (rows : List (Row LockState)) → AreRowsOf names rows → hash ≡ owner_hash names owner → value_in (find (is_named hash test) rows) ≡ find test (states_of rows)
  named_in owner test own hash rows are same =
      ap (λ h. value_in (find (is_named h test) rows)) same
      ∙ find_seen (λ r. r.value) (is_named (owner_hash names owner) test) test rows (named_is (owner_hash names owner) test rows (hashes owner test own rows are))

-- whether one is found by a hash
pub some_named : (hash : ℕ) (test : LockState → Bool) (rows : List (Row LockState)) (found : Option (ℕ × Bor LockState)) → pair_seen found ≡ pair_in (find (is_named hash test) rows)
    → is_some found ≡ is_some (value_in (find (is_named hash test) rows))
some_named hash test rows found is = by found (find (is_named hash test) rows) is
  where
    by : (a : Option (ℕ × Bor LockState)) (b : Option (Row LockState)) → pair_seen a ≡ pair_in b → is_some a ≡ is_some (value_in b)
    by None None is = refl
    by (Some a) (Some b) is = refl
    by None (Some b) is = absurd (cc)
    by (Some a) None is = absurd (cc)

-- what follows where there is no error
pub if_ok : {A E P Q : Type 0} (r : Result A E) → (P → Q) → OnOk r P → OnOk r Q
if_ok (Ok a) leads h = leads h
if_ok (Err e) leads h = h

-- the client of the lock state that is found among the pairs
pub client_found : (test : LockState → Bool) (rows : List (Row LockState)) (found : Option (ℕ × Bor LockState))
    → option_map (λ (p : ℕ × Bor LockState). (p.0, p.1.now)) found ≡ find (λ (p : ℕ × LockState). test p.1) (map pair_of rows)
    → option_map (λ (p : ℕ × Bor LockState). p.1.now.owner.client.number) found ≡ option_map (λ r. r.value.owner.client.number) (find (λ r. test r.value) rows)
client_found test rows found is = by found (find (λ r. test r.value) rows) (is ∙ find_pair test rows)
  where
    by : (a : Option (ℕ × Bor LockState)) (b : Option (Row LockState)) → option_map (λ (p : ℕ × Bor LockState). (p.0, p.1.now)) a ≡ option_map pair_of b
        → option_map (λ (p : ℕ × Bor LockState). p.1.now.owner.client.number) a ≡ option_map (λ r. r.value.owner.client.number) b
    by None None is = refl
    by None (Some b) is = absurd (cc)
    by (Some a) None is = absurd (cc)
    by (Some a) (Some b) is = ap (option_map (λ (p : ℕ × LockState). p.1.owner.client.number)) is

-- the lock states of the pairs that were yielded, where these are all
pub all_yielded : (yielded : List (ℕ × Bor LockState)) (rows : List (Row LockState)) → map (λ (p : ℕ × Bor LockState). (p.0, p.1.now)) yielded ≡ map pair_of rows
    → map (λ (p : ℕ × Bor LockState). lock_seen p.1.now) yielded ≡ locks_seen (states_of rows)
all_yielded yielded rows all = of_yielded yielded ∙ ap (map (λ (p : ℕ × LockState). lock_seen p.1)) all ∙ of_pairs rows
  where
    of_yielded : (yielded : List (ℕ × Bor LockState)) → map (λ (p : ℕ × Bor LockState). lock_seen p.1.now) yielded ≡ map (λ (p : ℕ × LockState). lock_seen p.1) (map (λ (p : ℕ × Bor LockState). (p.0, p.1.now)) yielded)
    of_yielded [] = refl
    of_yielded (p ∷ yielded) = ap (λ locks. lock_seen p.1.now ∷ locks) (of_yielded yielded)

    of_pairs : (rows : List (Row LockState)) → map (λ (p : ℕ × LockState). lock_seen p.1) (map pair_of rows) ≡ locks_seen (states_of rows)
    of_pairs [] = refl
    of_pairs (r ∷ rows) = ap (λ locks. lock_seen r.value ∷ locks) (of_pairs rows)
