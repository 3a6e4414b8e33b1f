-- The lock states of all files beside their nodes.
use Rattle.std.proofs.Common.{◌≡◌, ℕ, zero, suc, ◌+◌, ◌-◌, ◌<◌, ◌≤◌, ◌^◌, Bool, true, false, cond, List, [], ◌∷◌, length, map, min, replicate, position, slice_index_or, slice_set, Some, None, refl, sym, ap, subst, ◌∙◌, arith}
use Rattle.std.specs.Prelude.{IfSome, filter, slice_get, unwrap_or, if◌then◌else◌}
use Rattle.std.specs.List.{AllByRecursion, list_any}
use Rattle.std.proofs.Math.Nat.{min-le_left, min-le_right, suc-min-suc}
use Rattle.std.proofs.lemmas.Bool.{and_parts, eqb-true}
use Rattle.std.proofs.lemmas.List.{length-map}
use Rattle.nfs_forms.specs.declared.stateid.Stateid.{Stateid}
use Rattle.nfs_locks.specs.AllLocks.{HasLockRoom, HasLockRoomAt, at_node, lock_count, lock_named_in, locks_in, locks_or_none, named_at, stored_in}
use Rattle.nfs_locks.specs.LockNodes.{number_of, within_room}
use Rattle.nfs_locks.specs.Locks.{ByteLocks, is_lock_of_client, is_numbered, after_change, is_stateid_of, lock_named_by}
use Rattle.nfs_locks.specs.StoredLocks.{StoredLock, StoredLocks, byte_locks, lock_seen, locks_seen, stored_lock}
use Rattle.nfs_locks.specs.declared.lock_state.LockState.{LockState}
use Rattle.nfs_ranges.specs.declared.piece.Piece.{Piece}
use Rattle.nfs_locks.proofs.Files.{changed_at, seen_twice}
use Rattle.nfs_nodes.specs.Nodes.{RoomyNodes}
use Rattle.nfs_nodes.specs.Numbers.{AreFound, total}
use Rattle.nfs_nodes.proofs.Callers.{fewer_kept, found_fewer_at, found_if_any, none_stand, total_fewer, total_has}

-- what is seen of the files is what they have, whatever room there is
pub seen_within : (room : ℕ) (files : List StoredLocks) → locks_in (map (within_room room) files) ≡ locks_in files
seen_within room [] = refl
seen_within room (f ∷ files) = ap (λ more. map byte_locks (map stored_lock f.states) ∷ more) (seen_within room files)

pub stored_within : (room : ℕ) (files : List StoredLocks) → stored_in (map (within_room room) files) ≡ stored_in files
stored_within room [] = refl
stored_within room (f ∷ files) = ap (λ more. map stored_lock f.states ∷ more) (stored_within room files)

pub in_view : (room : ℕ) (files view : List StoredLocks) → map (within_room room) files ≡ view → locks_in files ≡ locks_in view
in_view room files view is = sym (seen_within room files) ∙ ap locks_in is

pub stored_in_view : (room : ℕ) (files view : List StoredLocks) → map (within_room room) files ≡ view → stored_in files ≡ stored_in view
stored_in_view room files view is = sym (stored_within room files) ∙ ap stored_in is

-- what is known of the file at a node
pub at_within : (P : StoredLocks → Type 0) (room : ℕ) (files : List StoredLocks) (node : ℕ) → IfSome (slice_get files node) (λ f. P (within_room room f))
    → IfSome (slice_get (map (within_room room) files) node) P
at_within P room [] node has = has
at_within P room (f ∷ files) zero has = has
at_within P room (f ∷ files) (suc node) has = at_within P room files node has

pub from_within : (P : StoredLocks → Type 0) (room : ℕ) (files : List StoredLocks) (node : ℕ) → IfSome (slice_get (map (within_room room) files) node) P
    → IfSome (slice_get files node) (λ f. P (within_room room f))
from_within P room [] node has = has
from_within P room (f ∷ files) zero has = has
from_within P room (f ∷ files) (suc node) has = from_within P room files node has

-- room of both kinds
both_rooms : (a b : ℕ) → 0 < min a b → (0 < a) × (0 < b)
both_rooms a b h = (omega (arith, h, min-le_left a b), omega (arith, h, min-le_right a b))

least_room : (a b : ℕ) → 0 < a → 0 < b → 0 < min a b
least_room zero b h k = absurd (omega (arith, h))
least_room (suc a) zero h k = absurd (omega (arith, k))
least_room (suc a) (suc b) h k = omega (arith, suc-min-suc a b)

pub room_within : (room : ℕ) (f : StoredLocks) → 0 < room → HasLockRoom f → HasLockRoom (within_room room f)
room_within room f some has = (least_room room f.room some has.0, has.1)

pub room_without : (room : ℕ) (f : StoredLocks) → HasLockRoom (within_room room f) → (0 < room) × HasLockRoom f
room_without room f has =
    let both = both_rooms room f.room has.0 in
    (both.0, (both.1, has.1))

pub room_there : (room : ℕ) (files : List StoredLocks) (node : ℕ) → node < length files → HasLockRoomAt node (map (within_room room) files) → 0 < room
room_there room [] node below has = absurd (omega (arith, below))
room_there room (f ∷ files) zero below has = (room_without room f has).0
room_there room (f ∷ files) (suc node) below has = room_there room files node (omega (arith, below)) has

-- the lock states of a file stand at its node
pub locks_there : (files : List StoredLocks) (node : ℕ) (file : StoredLocks) → node < length files → file ≡ slice_index_or files node file
    → slice_get (locks_in files) node ≡ Some (locks_seen file.states)
locks_there [] node file below is = absurd (omega (arith, below))
locks_there (f ∷ files) zero file below is = ap Some (seen_twice f.states) ∙ ap (λ (f : StoredLocks). Some (locks_seen f.states)) (sym is)
locks_there (f ∷ files) (suc node) file below is = locks_there files node file (omega (arith, below)) is

pub as_many_locks : (files : List StoredLocks) → length (locks_in files) ≡ length files
as_many_locks [] = refl
as_many_locks (f ∷ files) = omega (arith, as_many_locks files)

pub counted : (locks : List (List ByteLocks)) → lock_count locks ≡ total locks
counted [] = refl
counted (l ∷ locks) = omega (arith, counted locks)

-- how many are left of so many, where there were no fewer
pub all_counted_again : (p : ByteLocks → Bool) (count gone left : ℕ) (locks : List (List ByteLocks)) → count ≡ total locks
    → gone ≡ count - lock_count (map (filter p) locks) → left ≡ count - gone → left ≡ total (map (filter p) locks)
all_counted_again p count gone left locks is less rest =
    omega (arith, is, less, rest, counted (map (filter p) locks), total_fewer p locks)

-- the stateid names none
pub unnamed : (id : Stateid) (locks : List (List ByteLocks)) → position (list_any (is_stateid_of id)) locks ≡ None → lock_named_in id locks ≡ None
unnamed id locks none = ap (named_at id locks) none

-- it names one of this node, if any
pub named : (id : Stateid) (locks : List (List ByteLocks)) (node : ℕ) (here : List ByteLocks) → slice_get locks node ≡ Some here
    → position (list_any (is_stateid_of id)) locks ≡ cond (list_any (is_stateid_of id) here) (Some node) None
    → at_node node (lock_named_by id here) ≡ lock_named_in id locks
named id locks node here there is =
    found_if_any (is_stateid_of id) (at_node node) refl here
    ∙ by (list_any (is_stateid_of id) here)
    ∙ sym (ap (named_at id locks) is)
  where
    by : (b : Bool) → cond b (at_node node (lock_named_by id here)) None ≡ named_at id locks (cond b (Some node) None)
    by true = ap (λ l. at_node node (lock_named_by id l)) (sym (ap locks_or_none there))
    by false = refl

pub only : (id : Stateid) (l : ByteLocks) → is_stateid_of id l ≡ true → number_of l ≡ id.number
only id l names = eqb-true l.number id.number (and_parts (is_lock_of_client id.client l) (is_numbered id.number l) names).1

-- there are none yet
pub none_yet : (n : ℕ) (files : List StoredLocks) (nodes : RoomyNodes) → stored_in files ≡ replicate n [] → length files < 2 ^ 32 → AreFound number_of nodes 0 (locks_in files)
none_yet n files nodes is few =
    let none : AllByRecursion (λ (l : List ByteLocks). l ≡ []) (locks_in files) =
    subst (λ (s : List (List StoredLock)). AllByRecursion (λ (l : List ByteLocks). l ≡ []) (map (map byte_locks) s)) (sym is) (all_empty n) in
    let both = none_stand number_of nodes 0 0 (locks_in files) none in record {
      stand = both.0;
      counted = sym both.1;
      few = omega (arith, few, as_many_locks files);
    }
  where
    all_empty : (n : ℕ) → AllByRecursion (λ (l : List ByteLocks). l ≡ []) (map (map byte_locks) (replicate n []))
    all_empty zero = tt
    all_empty (suc n) = (refl, all_empty n)

-- what is left of the lock states of a file is no more
pub fewer_left : (p : ByteLocks → Bool) (old new : List LockState) → locks_seen new ≡ filter p (locks_seen old) → length new ≤ length old
fewer_left p old new is =
    omega (arith, length-map old lock_seen, length-map new lock_seen, ap length is, fewer_kept p (locks_seen old))

-- some lock states of one file are gone
pub gone_at : (p : ByteLocks → Bool) (files : List StoredLocks) (node : ℕ) (old new : StoredLocks) (count gone : ℕ) (nodes : RoomyNodes)
    → node < length files → old ≡ slice_index_or files node old → locks_seen new.states ≡ filter p (locks_seen old.states)
    → gone + length (locks_seen new.states) ≡ length (locks_seen old.states) → AreFound number_of nodes count (locks_in files)
    → (gone ≤ count) × AreFound number_of nodes (count - gone) (locks_in (slice_set files node new))
gone_at p files node old new count gone nodes below is left many h =
    let there = locks_there files node old below is in
    let within : gone ≤ count = omega (arith, many, h.counted, total_has (locks_in files) node (locks_seen old.states) there) in (
      within,
      subst (AreFound number_of nodes (count - gone)) (sym (changed_at (filter p) files node old new below is left))
          (found_fewer_at number_of locks_or_none (λ xs. refl) node count (locks_in files) nodes p (count - gone) (omega (arith, below, as_many_locks files))
          (λ d here.
          let same : d ≡ locks_seen old.states = ap (λ o. unwrap_or o []) (sym here ∙ there) in
          omega (arith, within, many, ap length left, ap length same, ap (λ l. length (filter p l)) same))
          h),
    )

-- a change of lock states leaves their numbers
pub same_number : (number : ℕ) (change : Piece) (l : ByteLocks) → number_of (if is_numbered number l then after_change change l else l) ≡ number_of l
same_number number change l = by (is_numbered number l)
  where
    by : (b : Bool) → number_of (if b then after_change change l else l) ≡ number_of l
    by true = refl
    by false = refl
