-- The lock states of one node, in the list of all files.
use Rattle.std.proofs.Common.{◌≡◌, ℕ, zero, suc, ◌+◌, ◌-◌, ◌<◌, ◌≤◌, Bool, List, [], ◌∷◌, ◌++◌, drop, length, get_or, map, set, take, slice_index_or, slice_set, Some, None, refl, sym, ap, ◌∙◌, subst, arith}
use Rattle.std.specs.Prelude.{IfSome, ◌||◌, position, slice_get}
use Rattle.std.specs.List.{list_any}
use Rattle.std.proofs.lemmas.List.{append-nil, drop_all, get_or-map, length-map, map-set, take_all}
use Rattle.std.proofs.lemmas.List.Edits.{map_over_more}
use Rattle.nfs_forms.specs.declared.stateid.Stateid.{Stateid}
use Rattle.nfs_locks.specs.AllLocks.{IsAboveAll, at_node, lock_count, lock_named_in, locks_in, locks_of, named_at, stored_in, with_locks}
use Rattle.nfs_locks.specs.Locks.{ByteLocks, IsAbove, is_stateid_of, lock_named_by}
use Rattle.nfs_locks.specs.StoredLocks.{StoredLocks, byte_locks, lock_seen, locks_seen, stored_lock, stored_locks}
use Rattle.nfs_locks.specs.declared.lock_state.LockState.{LockState}
use Rattle.nfs_locks.proofs.Elements.{any_seen}

-- what is stored, seen as lock states
pub seen_twice : (states : List LockState) → map byte_locks (map stored_lock states) ≡ locks_seen states
seen_twice [] = refl
seen_twice (l ∷ states) = ap (λ more. lock_seen l ∷ more) (seen_twice states)

-- the lock states of each file, in one step
abbrev pub seen_in : List StoredLocks → List (List ByteLocks)
seen_in files = map (λ f. locks_seen f.states) files

pub all_seen : (files : List StoredLocks) → locks_in files ≡ seen_in files
all_seen [] = refl
all_seen (f ∷ files) = λ i. seen_twice f.states i ∷ all_seen files i

-- the lock states of the file at this place
pub locks_at : (files : List StoredLocks) (node : ℕ) (file : StoredLocks) → node < length files → file ≡ slice_index_or files node file
    → locks_of node (locks_in files) ≡ locks_seen file.states
locks_at [] node file below is = absurd (omega (arith, below))
locks_at (f ∷ files) zero file below is = seen_twice f.states ∙ ap (λ (f : StoredLocks). locks_seen f.states) (sym is)
locks_at (f ∷ files) (suc node) file below is = locks_at files node file (omega (arith, below)) is

-- there is no file at this place
pub no_locks_at : (files : List StoredLocks) (node : ℕ) → length files ≤ node → locks_of node (locks_in files) ≡ []
no_locks_at [] node above = refl
no_locks_at (f ∷ files) zero above = absurd (omega (arith, above))
no_locks_at (f ∷ files) (suc node) above = no_locks_at files node (omega (arith, above))

-- a number above those of all lock states is above those of a node
pub above_of : (number : ℕ) (locks : List (List ByteLocks)) (node : ℕ) → IsAboveAll number locks → IsAbove number (locks_of node locks)
above_of number [] node above = tt
above_of number (l ∷ locks) zero above = above.0
above_of number (l ∷ locks) (suc node) above = above_of number locks node above.1

-- the lock states of the file at this place are changed
pub changed_at : (change : List ByteLocks → List ByteLocks) (files : List StoredLocks) (node : ℕ) (old new : StoredLocks) → node < length files → old ≡ slice_index_or files node old → locks_seen new.states ≡ change (locks_seen old.states) → locks_in (slice_set files node new) ≡ with_locks node change (locks_in files)
changed_at change [] node old new below is new_is = absurd (omega (arith, below))
changed_at change (f ∷ files) zero old new below is new_is =
    ap (λ l. l ∷ locks_in files) (seen_twice new.states ∙ new_is ∙ ap (λ (f : StoredLocks). change (locks_seen f.states)) is ∙ ap change (sym (seen_twice f.states)))
changed_at change (f ∷ files) (suc node) old new below is new_is =
    ap (λ l. map byte_locks (map stored_lock f.states) ∷ l) (changed_at change files node old new (omega (arith, below)) is new_is)

-- there is no file at this place to change
pub no_change : (change : List ByteLocks → List ByteLocks) (files : List StoredLocks) (node : ℕ) → length files ≤ node → locks_in files ≡ with_locks node change (locks_in files)
no_change change [] node above = refl
no_change change (f ∷ files) zero above = absurd (omega (arith, above))
no_change change (f ∷ files) (suc node) above =
    ap (λ l. map byte_locks (map stored_lock f.states) ∷ l) (no_change change files node (omega (arith, above)))

-- what is stored of the file at this place stays
pub same_at : (files : List StoredLocks) (node : ℕ) (old new : StoredLocks) → node < length files → old ≡ slice_index_or files node old → stored_locks new.states ≡ stored_locks old.states → stored_in (slice_set files node new) ≡ stored_in files
same_at [] node old new below is new_is = absurd (omega (arith, below))
same_at (f ∷ files) zero old new below is new_is =
    ap (λ l. l ∷ stored_in files) (new_is ∙ ap (λ (f : StoredLocks). stored_locks f.states) is)
same_at (f ∷ files) (suc node) old new below is new_is =
    ap (λ l. stored_locks f.states ∷ l) (same_at files node old new (omega (arith, below)) is new_is)

module _ (P : StoredLocks → Type 0) where
  -- what holds of the file at this place holds there
  pub holds_at : (files : List StoredLocks) (node : ℕ) (new : StoredLocks) → node < length files → P new → IfSome (slice_get (slice_set files node new) node) P
  holds_at [] node new below h = absurd (omega (arith, below))
  holds_at (f ∷ files) zero new below h = h
  holds_at (f ∷ files) (suc node) new below h = holds_at files node new (omega (arith, below)) h

  -- it is asked of no node that there isn't
  pub holds_of_none : (files : List StoredLocks) (node : ℕ) → length files ≤ node → IfSome (slice_get files node) P
  holds_of_none [] node above = tt
  holds_of_none (f ∷ files) zero above = absurd (omega (arith, above))
  holds_of_none (f ∷ files) (suc node) above = holds_of_none files node (omega (arith, above))

  -- it holds of a file that there is
  pub holds_of : (files : List StoredLocks) (node : ℕ) (file : StoredLocks) → node < length files → file ≡ slice_index_or files node file → IfSome (slice_get files node) P → P file
  holds_of [] node file below is h = absurd (omega (arith, below))
  holds_of (f ∷ files) zero file below is h = subst P (sym is) h
  holds_of (f ∷ files) (suc node) file below is h = holds_of files node file (omega (arith, below)) is h

-- a test of each file's lock states is one of the lock states of all files
pub any_file : (p : ByteLocks → Bool) (files : List StoredLocks) → list_any (λ f. list_any (λ l. p (lock_seen l)) f.states) files ≡ list_any (list_any p) (locks_in files)
any_file p [] = refl
any_file p (f ∷ files) =
    λ i. (any_seen lock_seen p f.states ∙ ap (list_any p) (sym (seen_twice f.states))) i || any_file p files i

-- the file with a lock state that passes the test
position_seen : (p : ByteLocks → Bool) (files : List StoredLocks) → position (λ f. list_any (λ l. p (lock_seen l)) f.states) files ≡ position (list_any p) (locks_in files)
position_seen p [] = refl
position_seen p (f ∷ files) =
    grind (arith, position_seen p files, any_seen lock_seen p f.states ∙ ap (list_any p) (sym (seen_twice f.states)))

pub none_named : (id : Stateid) (files : List StoredLocks) → position (λ f. list_any (λ l. is_stateid_of id (lock_seen l)) f.states) files ≡ None → lock_named_in id (locks_in files) ≡ None
none_named id files none =
    ap (named_at id (locks_in files)) (sym (position_seen (is_stateid_of id) files) ∙ none)

pub named_there : (id : Stateid) (files : List StoredLocks) (node : ℕ) (file : StoredLocks) → position (λ f. list_any (λ l. is_stateid_of id (lock_seen l)) f.states) files ≡ Some node → node < length files → file ≡ slice_index_or files node file → at_node node (lock_named_by id (locks_seen file.states)) ≡ lock_named_in id (locks_in files)
named_there id files node file some below is =
    ap (λ locks. at_node node (lock_named_by id locks)) (sym (locks_at files node file below is))
    ∙ ap (named_at id (locks_in files)) (sym some ∙ position_seen (is_stateid_of id) files)

-- a loop changes the lock states of one more file
pub changes_one_more : (f : List ByteLocks → List ByteLocks) (old new : List StoredLocks) (i : ℕ) (d next : StoredLocks)
    → i < length old → length new ≡ length old
    → seen_in new ≡ map f (take i (seen_in old)) ++ drop i (seen_in old)
    → locks_seen next.states ≡ f (locks_seen (get_or new i d).states)
    → seen_in (set new i next) ≡ map f (take (i + 1) (seen_in old)) ++ drop (i + 1) (seen_in old)
changes_one_more f old new i d next below same so_far is =
    map-set (λ (g : StoredLocks). locks_seen g.states) new i next
    ∙ ap (set (seen_in new) i) is
    ∙ map_over_more f (seen_in old) (seen_in new) i (locks_seen (get_or new i d).states)
    (omega (arith, length-map old (λ (g : StoredLocks). locks_seen g.states))) so_far
    (sym (get_or-map (λ (g : StoredLocks). locks_seen g.states) new i d (locks_seen (get_or new i d).states) (omega arith)))

-- after the loop the lock states of all files are changed
pub all_changed : (f : List ByteLocks → List ByteLocks) (old new : List StoredLocks) (i : ℕ) → length old ≤ i
    → seen_in new ≡ map f (take i (seen_in old)) ++ drop i (seen_in old)
    → locks_in new ≡ map f (locks_in old)
all_changed f old new i past so_far =
    let end : length (seen_in old) ≤ i = omega (arith, length-map old (λ (g : StoredLocks). locks_seen g.states)) in
    all_seen new
    ∙ so_far
    ∙ ap (λ front. map f front ++ drop i (seen_in old)) (take_all i (seen_in old) end)
    ∙ ap (λ back. map f (seen_in old) ++ back) (drop_all i (seen_in old) end)
    ∙ append-nil (map f (seen_in old))
    ∙ ap (map f) (sym (all_seen old))

-- the count from an index on is the length there, and the count behind
count_from : (all : List (List ByteLocks)) (i : ℕ) (d : List ByteLocks) → i < length all
    → lock_count (drop i all) ≡ length (get_or all i d) + lock_count (drop (i + 1) all)
count_from [] i d below = absurd (omega arith)
count_from (locks ∷ all) zero d below = refl
count_from (locks ∷ all) (suc i) d below =
    let next : suc i + 1 ≡ suc (i + 1) = omega arith in
    rw next (count_from all i d (omega arith))

-- the places that are left after one more file
pub place_taken : (files : List StoredLocks) (i : ℕ) (file : StoredLocks) (left taken next whole : ℕ) → i < length files
    → file ≡ get_or files i file → taken ≡ length file.states → next ≡ left - taken
    → left - lock_count (drop i (seen_in files)) ≡ whole → next - lock_count (drop (i + 1) (seen_in files)) ≡ whole
place_taken files i file left taken next whole below there is less so_far =
    let many : length (get_or (seen_in files) i []) ≡ length file.states =
    ap length (get_or-map (λ (g : StoredLocks). locks_seen g.states) files i file [] below ∙ ap (λ (g : StoredLocks). locks_seen g.states) (sym there))
    ∙ length-map file.states lock_seen in
    omega (arith, count_from (seen_in files) i [] (omega (arith, below, length-map files (λ (g : StoredLocks). locks_seen g.states))), many, is, less, so_far)

pub all_counted : (files : List StoredLocks) (left limit i : ℕ) → length files ≤ i
    → left - lock_count (drop i (seen_in files)) ≡ limit - lock_count (seen_in files)
    → left ≡ limit - lock_count (locks_in files)
all_counted files left limit i past so_far =
    let end : length (seen_in files) ≤ i = omega (arith, length-map files (λ (g : StoredLocks). locks_seen g.states)) in
    let none : lock_count (drop i (seen_in files)) ≡ 0 = ap lock_count (drop_all i (seen_in files) end) in
    omega (arith, so_far, none, ap lock_count (all_seen files))
