-- What holds of the lock states stays.
use Rattle.std.proofs.Common.{◌≡◌, inl, inr, ℕ, Bool, true, false, List, [], ◌∷◌, ◌++◌, map, refl, sym, ap, ◌∙◌, subst, arith}
use Rattle.std.specs.Prelude.{⊤, ◌+◌, ◌≤◌, ◌==◌, ◌&&◌, not, find, is_some, if◌then◌else◌}
use Rattle.std.specs.List.{AllByRecursion}
use Rattle.std.proofs.lemmas.Bool.{and_parts, and_from, cases_Bool, cond_both, eqb-true, not-true, not_from_false}
use Rattle.nfs_core.proofs.SafeFiles.{locks_at, locks_of_map, locks_set, locks_where_set, lists_of_map, lists_where_set, set_locks}
use Rattle.nfs_core.proofs.SafeLists.{all_always, all_filter, all_map, all_push, all_set, all_weaken, found_by, found_filtered, found_holds, found_map, found_more, pairs_filter, pairs_map, pairs_push}
use Rattle.nfs_core.proofs.Sound.{AreNumbered, HasOneOwner, HasSoundLocks, KeepsOwners, IsLockerKnownIn, StandsUnder, confirmed_left, equal_clients, equal_lock_owners, equal_owners, is_known_in, left, name_left, same_lock_owner_self}
use Rattle.nfs_core.specs.Safe.{bears}
use Rattle.nfs_forms.specs.ClientId.{is_same_client}
use Rattle.nfs_forms.specs.OpenOwner.{is_same_owner}
use Rattle.nfs_forms.specs.declared.client_id.ClientId.{ClientId}
use Rattle.nfs_forms.specs.declared.lock_owner.LockOwner.{LockOwner}
use Rattle.nfs_forms.specs.declared.open_owner.OpenOwner.{OpenOwner}
use Rattle.nfs_locks.specs.AllLocks.{locks_of, with_locks}
use Rattle.nfs_locks.specs.Laws.{AllLocksAreCompatible, IsFreeFor}
use Rattle.nfs_locks.specs.Locks.{ByteLocks, after_change, first_state, is_lock_of, is_lock_of_client, is_numbered, is_under, with_first_lock, with_lock_change, without}
use Rattle.nfs_locks.specs.declared.first_lock.FirstLock.{FirstLock}
use Rattle.nfs_owners.specs.StateOwner.{is_same_state_owner, lock_owner, open_owner}
use Rattle.nfs_owners.specs.declared.state_owner.StateOwner.{StateOwner}
use Rattle.nfs_ranges.specs.declared.piece.Piece.{Piece}
use Rattle.nfs_share.specs.AllOpens.{opens_of, with_opens}
use Rattle.nfs_share.specs.Opens.{after_open, first_open, is_numbered as is_open_numbered, is_of as is_open_of, is_of_client as is_open_of_client, open_of, with_each, with_opening, without as without_opens}
use Rattle.nfs_share.specs.declared.open_state.OpenState.{OpenState}
use Rattle.nfs_share.specs.declared.share.Share.{Share}
use Rattle.nfs_state.specs.Owners.{KnownOwner, is_confirmed, without_owner}

-- the laws by which lock states that are compatible stay so
pub record LocksStay : Type 0 where
  pub begin : (first : FirstLock) (number : ℕ) (locks : List ByteLocks) → AllLocksAreCompatible locks → IsFreeFor first.owner first.change locks → AllLocksAreCompatible (with_first_lock first number locks)
  pub change : (number : ℕ) (change : Piece) (owner : LockOwner) (locks : List ByteLocks) → AllLocksAreCompatible locks
      → AllByRecursion (λ l. is_numbered number l ≡ true → is_lock_of owner l ≡ true) locks → IsFreeFor owner change locks → AllLocksAreCompatible (with_lock_change number change locks)
  pub removal : (test : ByteLocks → Bool) (locks : List ByteLocks) → AllLocksAreCompatible locks → AllLocksAreCompatible (without test locks)

never : (b : Bool) → b ≡ false → b ≡ true → ⊥
never b unset is_set = cc

-- The parts of the test of an open to which a lock state belongs.

pub record Bears (owners : List KnownOwner) (l : ByteLocks) (o : OpenState) : Type 0 where
  pub number : is_open_numbered l.open_number o ≡ true
  pub client : is_open_of_client l.owner.client o ≡ true
  pub confirmed : is_confirmed (open_owner o.owner) owners ≡ true

pub bears_parts : (owners : List KnownOwner) (l : ByteLocks) (o : OpenState) → bears owners l o ≡ true → Bears owners l o
bears_parts owners l o h =
    let number = is_open_numbered l.open_number o in
    let client = is_open_of_client l.owner.client o in
    let both = and_parts (number && client) (is_confirmed (open_owner o.owner) owners) h in
    let front = and_parts number client both.0 in
    record { number = front.0; client = front.1; confirmed = both.1 }

pub bears_from : (owners : List KnownOwner) (l : ByteLocks) (o : OpenState) → Bears owners l o → bears owners l o ≡ true
bears_from owners l o h =
    let number = is_open_numbered l.open_number o in
    let client = is_open_of_client l.owner.client o in
    and_from (number && client) (is_confirmed (open_owner o.owner) owners) (and_from number client h.number h.client) h.confirmed

-- an open whose owner is confirmed still
bears_still : (owners new : List KnownOwner) (l : ByteLocks) (o : OpenState) → Bears owners l o → is_confirmed (open_owner o.owner) new ≡ true → bears new l o ≡ true
bears_still owners new l o h confirmed = bears_from new l o (record { number = h.number; client = h.client; confirmed = confirmed })

-- a lock state stands under one of the opens that are left
under_left : (owners new : List KnownOwner) (test : OpenState → Bool) (l : ByteLocks)
    → ((o : OpenState) → Bears owners l o → (test o ≡ false) × (is_confirmed (open_owner o.owner) new ≡ true))
    → (xs : List OpenState) → StandsUnder owners xs l → StandsUnder new (without_opens test xs) l
under_left owners new test l keep xs found =
    found_by (bears owners l) (bears new l)
    (λ o h. bears_still owners new l o (bears_parts owners l o h) (keep o (bears_parts owners l o h)).1) (without_opens test xs)
    (found_filtered (λ o. ⊤) (bears owners l) (λ o. not (test o))
    (λ o _ h. not_from_false (test o) (keep o (bears_parts owners l o h)).0) xs (all_always xs) found)

-- Lock states of which some are removed.

numbered_left : (last : ℕ) (test : ByteLocks → Bool) (xs : List ByteLocks) → AreNumbered last xs → AreNumbered last (without test xs)
numbered_left last test xs h = (
  all_filter (λ l. l.number ≤ last) (λ l. l.number ≤ last) (λ l. not (test l)) (λ l k _. k) xs h.0,
  pairs_filter HasOneOwner (λ l. not (test l)) xs h.1,
)

-- The owners change, and all that are known or confirmed stay so.

pub under_kept : (owners new : List KnownOwner) → KeepsOwners owners new → (l : ByteLocks) (xs : List OpenState) → StandsUnder owners xs l → StandsUnder new xs l
under_kept owners new keeps l xs found =
    found_by (bears owners l) (bears new l)
    (λ o h. bears_still owners new l o (bears_parts owners l o h) (keeps.confirmed (open_owner o.owner) (bears_parts owners l o h).confirmed)) xs found

pub locks_owned : (owners new : List KnownOwner) (opens : List (List OpenState)) (last : ℕ) (locks : List (List ByteLocks)) → KeepsOwners owners new
    → HasSoundLocks owners opens last locks → HasSoundLocks new opens last locks
locks_owned owners new opens last locks keeps sound = record {
  known = all_weaken (AllByRecursion (IsLockerKnownIn owners)) (AllByRecursion (IsLockerKnownIn new))
      (λ xs h. all_weaken (IsLockerKnownIn owners) (IsLockerKnownIn new) (λ l k. keeps.known (lock_owner l.owner) k) xs h) locks sound.known;
  compatible = sound.compatible;
  under = λ node. all_weaken (StandsUnder owners (opens_of node opens)) (StandsUnder new (opens_of node opens))
      (λ l h. under_kept owners new keeps l (opens_of node opens) h) (locks_of node locks) (sound.under node);
  numbered = sound.numbered;
}

-- An open owner that isn't confirmed is dropped with its opens.

dropped_stays : (name : OpenOwner) (owners : List KnownOwner) (l : ByteLocks) → is_confirmed (open_owner name) owners ≡ false
    → (o : OpenState) → Bears owners l o → (is_same_owner o.owner name ≡ false) × (is_confirmed (open_owner o.owner) (without_owner (open_owner name) owners) ≡ true)
dropped_stays name owners l unset o h = elim (cases_Bool (is_same_owner o.owner name)) [
  | inl same ↦ absurd (never (is_confirmed (open_owner name) owners) unset
      (subst (λ n. is_confirmed (open_owner n) owners ≡ true) (equal_owners o.owner name same) h.confirmed))
  | inr other ↦ (other, confirmed_left (λ n. is_same_state_owner n (open_owner name)) owners (open_owner o.owner) other h.confirmed)
]

pub locks_without : (name : OpenOwner) (owners : List KnownOwner) (opens : List (List OpenState)) (last : ℕ) (locks : List (List ByteLocks))
    → is_confirmed (open_owner name) owners ≡ false → HasSoundLocks owners opens last locks
    → HasSoundLocks (without_owner (open_owner name) owners) (map (without_opens (λ o. is_same_owner o.owner name)) opens) last locks
locks_without name owners opens last locks unset sound =
    let new = without_owner (open_owner name) owners in
    let remove : List OpenState → List OpenState = without_opens (λ o. is_same_owner o.owner name) in
    record {
      known = all_weaken (AllByRecursion (IsLockerKnownIn owners)) (AllByRecursion (IsLockerKnownIn new))
          (λ xs h. all_weaken (IsLockerKnownIn owners) (IsLockerKnownIn new)
          (λ l k. name_left (λ n. is_same_state_owner n (open_owner name)) owners (lock_owner l.owner) refl k) xs h) locks sound.known;
      compatible = sound.compatible;
      under = λ node. subst (λ xs. AllByRecursion (StandsUnder new xs) (locks_of node locks)) (sym (lists_of_map remove refl node opens))
          (all_weaken (StandsUnder owners (opens_of node opens)) (StandsUnder new (remove (opens_of node opens)))
          (λ l h. under_left owners new (λ o. is_same_owner o.owner name) l (dropped_stays name owners l unset) (opens_of node opens) h)
          (locks_of node locks) (sound.under node));
      numbered = sound.numbered;
    }

-- A client is dropped with its owners, its opens and its lock states.

client_stays : (client : ClientId) (owners : List KnownOwner) (l : ByteLocks) → is_same_client l.owner.client client ≡ false
    → (o : OpenState) → Bears owners l o
    → (is_open_of_client client o ≡ false) × (is_confirmed (open_owner o.owner) (left (λ n. is_same_client n.client client) owners) ≡ true)
client_stays client owners l other o h =
    let out : is_open_of_client client o ≡ false = ap (λ c. is_same_client c client) (equal_clients o.owner.client l.owner.client h.client) ∙ other in
    (out, confirmed_left (λ n. is_same_client n.client client) owners (open_owner o.owner) out h.confirmed)

pub locks_without_client : LocksStay → (client : ClientId) (owners : List KnownOwner) (opens : List (List OpenState)) (last : ℕ) (locks : List (List ByteLocks))
    → HasSoundLocks owners opens last locks
    → HasSoundLocks (left (λ n. is_same_client n.client client) owners) (map (without_opens (is_open_of_client client)) opens) last (map (without (is_lock_of_client client)) locks)
locks_without_client law client owners opens last locks sound =
    let new = left (λ n. is_same_client n.client client) owners in
    let close : List OpenState → List OpenState = without_opens (is_open_of_client client) in
    let free : List ByteLocks → List ByteLocks = without (is_lock_of_client client) in
    record {
      known = all_map (AllByRecursion (IsLockerKnownIn owners)) (AllByRecursion (IsLockerKnownIn new)) free
          (λ xs h. all_filter (IsLockerKnownIn owners) (IsLockerKnownIn new) (λ l. not (is_lock_of_client client l))
          (λ l k out. name_left (λ n. is_same_client n.client client) owners (lock_owner l.owner) (not-true (is_lock_of_client client l) out) k) xs h) locks sound.known;
      compatible = all_map AllLocksAreCompatible AllLocksAreCompatible free (λ xs h. law.removal (is_lock_of_client client) xs h) locks sound.compatible;
      under = λ node.
          subst (λ xs. AllByRecursion (StandsUnder new xs) (locks_of node (map free locks))) (sym (lists_of_map close refl node opens))
          (subst (AllByRecursion (StandsUnder new (close (opens_of node opens)))) (sym (locks_of_map free refl node locks))
          (all_filter (StandsUnder owners (opens_of node opens)) (StandsUnder new (close (opens_of node opens))) (λ l. not (is_lock_of_client client l))
          (λ l h out. under_left owners new (is_open_of_client client) l
          (client_stays client owners l (not-true (is_lock_of_client client l) out)) (opens_of node opens) h)
          (locks_of node locks) (sound.under node)));
      numbered = all_map (AreNumbered last) (AreNumbered last) free (λ xs h. numbered_left last (is_lock_of_client client) xs h) locks sound.numbered;
    }

-- A lock owner is dropped with its lock states.
pub locks_released : LocksStay → (owner : LockOwner) (owners : List KnownOwner) (opens : List (List OpenState)) (last : ℕ) (locks : List (List ByteLocks))
    → HasSoundLocks owners opens last locks
    → HasSoundLocks (without_owner (lock_owner owner) owners) opens last (map (without (is_lock_of owner)) locks)
locks_released law owner owners opens last locks sound =
    let new = without_owner (lock_owner owner) owners in
    let t : StateOwner → Bool = λ n. is_same_state_owner n (lock_owner owner) in
    let free : List ByteLocks → List ByteLocks = without (is_lock_of owner) in
    record {
      known = all_map (AllByRecursion (IsLockerKnownIn owners)) (AllByRecursion (IsLockerKnownIn new)) free
          (λ xs h. all_filter (IsLockerKnownIn owners) (IsLockerKnownIn new) (λ l. not (is_lock_of owner l))
          (λ l k out. name_left t owners (lock_owner l.owner) (not-true (is_lock_of owner l) out) k) xs h) locks sound.known;
      compatible = all_map AllLocksAreCompatible AllLocksAreCompatible free (λ xs h. law.removal (is_lock_of owner) xs h) locks sound.compatible;
      under = λ node.
          subst (AllByRecursion (StandsUnder new (opens_of node opens))) (sym (locks_of_map free refl node locks))
          (all_filter (StandsUnder owners (opens_of node opens)) (StandsUnder new (opens_of node opens)) (λ l. not (is_lock_of owner l))
          (λ l h out. found_by (bears owners l) (bears new l)
          (λ o k. bears_still owners new l o (bears_parts owners l o k)
          (confirmed_left t owners (open_owner o.owner) refl (bears_parts owners l o k).confirmed)) (opens_of node opens) h)
          (locks_of node locks) (sound.under node));
      numbered = all_map (AreNumbered last) (AreNumbered last) free (λ xs h. numbered_left last (is_lock_of owner) xs h) locks sound.numbered;
    }

-- The opens of a node change, and each that bears a lock state does so still.
pub locks_reopened : (node : ℕ) (change : List OpenState → List OpenState) (owners : List KnownOwner) (opens : List (List OpenState)) (last : ℕ) (locks : List (List ByteLocks))
    → ((l : ByteLocks) (xs : List OpenState) → StandsUnder owners xs l → StandsUnder owners (change xs) l)
    → HasSoundLocks owners opens last locks → HasSoundLocks owners (with_opens node change opens) last locks
locks_reopened node change owners opens last locks keep sound = record {
  known = sound.known;
  compatible = sound.compatible;
  under = λ m. lists_where_set (λ xs. AllByRecursion (StandsUnder owners xs) (locks_of m locks)) m node opens (change (opens_of node opens)) (sound.under m)
      (λ same. all_weaken (StandsUnder owners (opens_of node opens)) (StandsUnder owners (change (opens_of node opens)))
      (λ l h. keep l (opens_of node opens) h) (locks_of m locks)
      (subst (λ k. AllByRecursion (StandsUnder owners (opens_of k opens)) (locks_of m locks)) same (sound.under m)));
  numbered = sound.numbered;
}

-- some opens change, and each keeps its owner and its number
pub under_each : (owners : List KnownOwner) (test : OpenState → Bool) (change : OpenState → OpenState)
    → ((l : ByteLocks) (o : OpenState) → bears owners l o ≡ true → bears owners l (change o) ≡ true)
    → (l : ByteLocks) (xs : List OpenState) → StandsUnder owners xs l → StandsUnder owners (with_each test change xs) l
under_each owners test change keeps l xs found =
    found_map (bears owners l) (λ o. if test o then change o else o)
    (λ o h. cond_both (test o) (change o) o (λ x. bears owners l x ≡ true) (λ _. keeps l o h) (λ _. h)) xs found

pub under_opening : (owners : List KnownOwner) (owner : OpenOwner) (share : Share) (number : ℕ) (l : ByteLocks) (xs : List OpenState)
    → StandsUnder owners xs l → StandsUnder owners (with_opening owner share number xs) l
under_opening owners owner share number l xs found =
    cond_both (is_some (open_of owner xs)) (with_each (is_open_of owner) (after_open share) xs) (xs ++ first_open owner share number ∷ []) (λ ys. StandsUnder owners ys l)
    (λ _. under_each owners (is_open_of owner) (after_open share) (λ l o h. h) l xs found)
    (λ _. found_more (bears owners l) xs (first_open owner share number ∷ []) found)

-- a higher number is the last one that was given
pub locks_numbered : (owners : List KnownOwner) (opens : List (List OpenState)) (last higher : ℕ) (locks : List (List ByteLocks)) → last ≤ higher
    → HasSoundLocks owners opens last locks → HasSoundLocks owners opens higher locks
locks_numbered owners opens last higher locks rises sound = record {
  known = sound.known;
  compatible = sound.compatible;
  under = sound.under;
  numbered = all_weaken (AreNumbered last) (AreNumbered higher)
      (λ xs h. (all_weaken (λ l. l.number ≤ last) (λ l. l.number ≤ higher) (λ l k. omega (arith, k, rises)) xs h.0, h.1)) locks sound.numbered;
}

-- An open is closed with the lock states under it.

closed_stays : (number : ℕ) (owners : List KnownOwner) (l : ByteLocks) → is_under number l ≡ false
    → (o : OpenState) → Bears owners l o → (is_open_numbered number o ≡ false) × (is_confirmed (open_owner o.owner) owners ≡ true)
closed_stays number owners l other o h =
    (ap (λ n. n == number) (eqb-true o.number l.open_number h.number) ∙ other, h.confirmed)

pub locks_closed : LocksStay → (node number : ℕ) (owners : List KnownOwner) (opens : List (List OpenState)) (last : ℕ) (locks : List (List ByteLocks))
    → HasSoundLocks owners opens last locks
    → HasSoundLocks owners (with_opens node (without_opens (is_open_numbered number)) opens) last (with_locks node (without (is_under number)) locks)
locks_closed law node number owners opens last locks sound =
    let close : List OpenState → List OpenState = without_opens (is_open_numbered number) in
    let free : List ByteLocks → List ByteLocks = without (is_under number) in
    let new = with_locks node free locks in
    record {
      known = set_locks (AllByRecursion (IsLockerKnownIn owners)) tt free
          (λ xs h. all_filter (IsLockerKnownIn owners) (IsLockerKnownIn owners) (λ l. not (is_under number l)) (λ l k _. k) xs h) node locks sound.known;
      compatible = set_locks AllLocksAreCompatible (λ byte. tt) free (law.removal (is_under number)) node locks sound.compatible;
      under = λ m. lists_where_set (λ xs. AllByRecursion (StandsUnder owners xs) (locks_of m new)) m node opens (close (opens_of node opens))
          (locks_where_set (AllByRecursion (StandsUnder owners (opens_of m opens))) m node locks (free (locks_of node locks)) (sound.under m)
          (λ same. all_filter (StandsUnder owners (opens_of m opens)) (StandsUnder owners (opens_of m opens)) (λ l. not (is_under number l)) (λ l k _. k) (locks_of node locks)
          (subst (λ k. AllByRecursion (StandsUnder owners (opens_of m opens)) (locks_of k locks)) same (sound.under m))))
          (λ same. subst (λ k. AllByRecursion (StandsUnder owners (close (opens_of node opens))) (locks_of k new)) (sym same)
          (locks_set (AllByRecursion (StandsUnder owners (close (opens_of node opens)))) tt node locks (free (locks_of node locks))
          (all_filter (StandsUnder owners (opens_of node opens)) (StandsUnder owners (close (opens_of node opens))) (λ l. not (is_under number l))
          (λ l k out. under_left owners owners (is_open_numbered number) l (closed_stays number owners l (not-true (is_under number l) out)) (opens_of node opens) k)
          (locks_of node locks) (sound.under node))));
      numbered = set_locks (AreNumbered last) (tt, tt) free (λ xs h. numbered_left last (is_under number) xs h) node locks sound.numbered;
    }

-- A lock state begins.

above : (last n : ℕ) → n ≤ last → (last + 1 == n) ≡ true → ⊥
above last n below same = omega (arith, below, eqb-true (last + 1) n same)

above' : (last n : ℕ) → n ≤ last → (n == last + 1) ≡ true → ⊥
above' last n below same = omega (arith, below, eqb-true n (last + 1) same)

numbered_first : (first : FirstLock) (last : ℕ) (xs : List ByteLocks) → AreNumbered last xs → AreNumbered (last + 1) (with_first_lock first (last + 1) xs)
numbered_first first last xs h =
    let new = first_state first (last + 1) in (
      all_push (λ l. l.number ≤ last + 1) xs new (all_weaken (λ l. l.number ≤ last) (λ l. l.number ≤ last + 1) (λ l k. omega (arith, k)) xs h.0) (omega arith),
      pairs_push HasOneOwner xs new h.1
          (all_weaken (λ l. l.number ≤ last) (λ l. HasOneOwner l new) (λ l k same. absurd (above last l.number k same)) xs h.0)
          (all_weaken (λ l. l.number ≤ last) (HasOneOwner new) (λ l k same. absurd (above' last l.number k same)) xs h.0)
          (λ _. same_lock_owner_self first.owner),
    )

pub locks_begun : LocksStay → (node : ℕ) (first : FirstLock) (owners : List KnownOwner) (opens : List (List OpenState)) (last : ℕ) (locks : List (List ByteLocks))
    → is_known_in owners (lock_owner first.owner) ≡ true
    → StandsUnder owners (opens_of node opens) (first_state first (last + 1))
    → IsFreeFor first.owner first.change (locks_of node locks)
    → HasSoundLocks owners opens last locks → HasSoundLocks owners opens (last + 1) (with_locks node (with_first_lock first (last + 1)) locks)
locks_begun law node first owners opens last locks known under free sound =
    let new = first_state first (last + 1) in
    record {
      known = set_locks (AllByRecursion (IsLockerKnownIn owners)) tt (with_first_lock first (last + 1))
          (λ xs h. all_push (IsLockerKnownIn owners) xs new h known) node locks sound.known;
      compatible = all_set AllLocksAreCompatible locks node (with_first_lock first (last + 1) (locks_of node locks)) sound.compatible
          (law.begin first (last + 1) (locks_of node locks) (locks_at AllLocksAreCompatible (λ byte. tt) node locks sound.compatible) free);
      under = λ m. locks_where_set (AllByRecursion (StandsUnder owners (opens_of m opens))) m node locks (with_first_lock first (last + 1) (locks_of node locks)) (sound.under m)
          (λ same. all_push (StandsUnder owners (opens_of m opens)) (locks_of node locks) new
          (subst (λ k. AllByRecursion (StandsUnder owners (opens_of m opens)) (locks_of k locks)) same (sound.under m))
          (subst (λ k. StandsUnder owners (opens_of k opens) new) (sym same) under));
      numbered = all_set (AreNumbered (last + 1)) locks node (with_first_lock first (last + 1) (locks_of node locks))
          (locks_numbered owners opens last (last + 1) locks (omega arith) sound).numbered
          (numbered_first first last (locks_of node locks) (locks_at (AreNumbered last) (tt, tt) node locks sound.numbered));
    }

-- A lock state changes.

-- all lock states of a file with the number of one of an owner are the owner's
pub of_owner : (number last : ℕ) (owner : LockOwner) (xs : List ByteLocks) → AreNumbered last xs → is_some (find (λ l. is_numbered number l && is_lock_of owner l) xs) ≡ true
    → AllByRecursion (λ l. is_numbered number l ≡ true → is_lock_of owner l ≡ true) xs
of_owner number last owner xs h found =
    let held = found_holds (λ a. AllByRecursion (HasOneOwner a) xs) (λ l. is_numbered number l && is_lock_of owner l) xs found h.1 in
    let both = and_parts (is_numbered number held.0) (is_lock_of owner held.0) held.2 in
    all_weaken (HasOneOwner held.0) (λ l. is_numbered number l ≡ true → is_lock_of owner l ≡ true)
    (λ l same numbered. subst (λ o. is_lock_of o l ≡ true) (equal_lock_owners held.0.owner owner both.1)
    (same (subst (λ n. is_numbered n l ≡ true) (sym (eqb-true held.0.number number both.0)) numbered))) xs held.1

-- what depends on a lock state's owner and its numbers alone stays
changed_keeps : (P : ByteLocks → Type 0) (number : ℕ) (change : Piece) (l : ByteLocks) → P l → P (after_change change l) → P (if is_numbered number l then after_change change l else l)
changed_keeps P number change l before after = cond_both (is_numbered number l) (after_change change l) l P (λ _. after) (λ _. before)

numbered_changed : (number : ℕ) (change : Piece) (last : ℕ) (xs : List ByteLocks) → AreNumbered last xs → AreNumbered last (with_lock_change number change xs)
numbered_changed number change last xs h =
    let f : ByteLocks → ByteLocks = λ l. if is_numbered number l then after_change change l else l in (
      all_map (λ l. l.number ≤ last) (λ l. l.number ≤ last) f (λ l k. changed_keeps (λ x. x.number ≤ last) number change l k k) xs h.0,
      pairs_map HasOneOwner f (λ a b k. changed_keeps (λ x. HasOneOwner x (f b)) number change a
          (changed_keeps (HasOneOwner a) number change b k k) (changed_keeps (HasOneOwner (after_change change a)) number change b k k)) xs h.1,
    )

pub locks_changed : LocksStay → (node number : ℕ) (change : Piece) (owner : LockOwner) (owners : List KnownOwner) (opens : List (List OpenState)) (last : ℕ) (locks : List (List ByteLocks))
    → is_some (find (λ l. is_numbered number l && is_lock_of owner l) (locks_of node locks)) ≡ true
    → IsFreeFor owner change (locks_of node locks)
    → HasSoundLocks owners opens last locks → HasSoundLocks owners opens last (with_locks node (with_lock_change number change) locks)
locks_changed law node number change owner owners opens last locks has free sound =
    let f : ByteLocks → ByteLocks = λ l. if is_numbered number l then after_change change l else l in
    record {
      known = set_locks (AllByRecursion (IsLockerKnownIn owners)) tt (with_lock_change number change)
          (λ xs h. all_map (IsLockerKnownIn owners) (IsLockerKnownIn owners) f (λ l k. changed_keeps (IsLockerKnownIn owners) number change l k k) xs h) node locks sound.known;
      compatible = all_set AllLocksAreCompatible locks node (with_lock_change number change (locks_of node locks)) sound.compatible
          (law.change number change owner (locks_of node locks) (locks_at AllLocksAreCompatible (λ byte. tt) node locks sound.compatible)
          (of_owner number last owner (locks_of node locks) (locks_at (AreNumbered last) (tt, tt) node locks sound.numbered) has) free);
      under = λ m. locks_where_set (AllByRecursion (StandsUnder owners (opens_of m opens))) m node locks (with_lock_change number change (locks_of node locks)) (sound.under m)
          (λ same. all_map (StandsUnder owners (opens_of m opens)) (StandsUnder owners (opens_of m opens)) f
          (λ l k. changed_keeps (StandsUnder owners (opens_of m opens)) number change l k k) (locks_of node locks)
          (subst (λ k. AllByRecursion (StandsUnder owners (opens_of m opens)) (locks_of k locks)) same (sound.under m)));
      numbered = set_locks (AreNumbered last) (tt, tt) (with_lock_change number change) (λ xs h. numbered_changed number change last xs h) node locks sound.numbered;
    }
