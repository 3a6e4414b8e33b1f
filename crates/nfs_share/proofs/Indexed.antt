-- The opens and the delegations of all files beside their nodes.
use Rattle.std.proofs.Common.{inl, inr, ◌≡◌, ℕ, zero, suc, ◌+◌, ◌-◌, ◌<◌, ◌≤◌, ◌^◌, Bool, true, false, cond, not, List, [], ◌∷◌, ◌++◌, length, map, min, replicate, position, slice_index_or, slice_set, Option, Some, None, refl, sym, ap, subst, ◌∙◌, arith}
use Rattle.std.specs.Prelude.{IfSome, filter, find, nat_lt, slice_get, unwrap_or, is_none, is_some, if◌then◌else◌, ◌||◌}
use Rattle.std.specs.Borrow.{Bor}
use Rattle.std.specs.Option.{option_copied}
use Rattle.std.specs.List.{AllByRecursion, list_any}
use Rattle.std.proofs.Math.Nat.{min-le_left, min-le_right, suc-min-suc}
use Rattle.std.proofs.lemmas.Bool.{and_parts, cases_Bool, eqb-true, eqb-false, le-ltb, lt-ltb, ltb-false, ltb-true, true≢false}
use Rattle.std.proofs.lemmas.List.{length-map}
use Rattle.nfs_forms.specs.declared.open_owner.OpenOwner.{OpenOwner}
use Rattle.nfs_forms.specs.declared.stateid.Stateid.{Stateid}
use Rattle.nfs_share.specs.AllOpens.{at_node, delegations_in, lent_at, lent_found, lent_in, list_at, list_or_none, named_at, named_in, opens_in, total_length}
use Rattle.nfs_share.specs.Delegations.{is_delegation_numbered, is_lent_to, is_stateid_of_delegation, with_recall}
use Rattle.nfs_share.specs.OpenNodes.{lent_number, open_number, within_rooms}
use Rattle.nfs_share.specs.Opens.{FileOpens, after_open, first_open, is_numbered, is_of, is_of_client, is_stateid_of, open_named_by, open_of, with_each, with_opening}
use Rattle.nfs_share.specs.declared.delegation.Delegation.{Delegation}
use Rattle.nfs_share.specs.declared.open_state.OpenState.{OpenState}
use Rattle.nfs_share.specs.declared.share.Share.{Share}
use Rattle.nfs_share.proofs.OneFile.{changed_at, no_room_at}
use Rattle.nfs_nodes.specs.Nodes.{Forgets, RoomyNodes}
use Rattle.nfs_nodes.specs.Numbers.{AreFound, total}
use Rattle.nfs_nodes.proofs.Callers.{fewer_kept, found_fewer_at, found_if_any, none_stand, stand_without, total_fewer, total_has}

module _ {X : Type 0} (get : FileOpens → List X) (same : (a b : ℕ) (f : FileOpens) → get (within_rooms a b f) ≡ get f) where
  -- what is seen of the files is what they have, whatever room there is
  pub seen_within : (a b : ℕ) (files : List FileOpens) → map get (map (within_rooms a b) files) ≡ map get files
  seen_within a b [] = refl
  seen_within a b (f ∷ files) = λ i. same a b f i ∷ seen_within a b files i

  pub in_view : (a b : ℕ) (files view : List FileOpens) → map (within_rooms a b) files ≡ view → map get files ≡ map get view
  in_view a b files view is = sym (seen_within a b files) ∙ ap (map get) is

-- what the file at a node has, and what there is where there is no such node
module _ {X : Type 0} (get : FileOpens → List X) (same : (a b : ℕ) (f : FileOpens) → get (within_rooms a b f) ≡ get f) (a b : ℕ) (view : List FileOpens) where
  pub file_there : (files : List FileOpens) (node : ℕ) (file : FileOpens) → map (within_rooms a b) files ≡ view → node < length files → file ≡ slice_index_or files node file
      → get file ≡ list_at node (map get view)
  file_there files node file seen below is = by files node below is ∙ ap (list_at node) (in_view get same a b files view seen)
    where
      by : (files : List FileOpens) (node : ℕ) → node < length files → file ≡ slice_index_or files node file → get file ≡ list_at node (map get files)
      by [] node below is = absurd (omega (arith, below))
      by (f ∷ files) zero below is = ap get is
      by (f ∷ files) (suc node) below is = by files node (omega (arith, below)) is

  pub no_file_there : (files : List FileOpens) (node : ℕ) → map (within_rooms a b) files ≡ view → length files ≤ node → [] ≡ list_at node (map get view)
  no_file_there files node seen above = by files node above ∙ ap (list_at node) (in_view get same a b files view seen)
    where
      by : (files : List FileOpens) (node : ℕ) → length files ≤ node → [] ≡ list_at node (map get files)
      by [] node above = refl
      by (f ∷ files) zero above = absurd (omega (arith, above))
      by (f ∷ files) (suc node) above = by files node (omega (arith, above))

pub as_long : (files : List FileOpens) (node : ℕ) (f : FileOpens) → length (slice_set files node f) ≡ length files
as_long [] node f = refl
as_long (g ∷ files) zero f = refl
as_long (g ∷ files) (suc node) f = omega (arith, as_long files node f)

pub opens_within : (a b : ℕ) (files : List FileOpens) → opens_in (map (within_rooms a b) files) ≡ opens_in files
opens_within a b files = seen_within (λ f. f.opens) (λ a b f. refl) a b files

pub opens_view : (a b : ℕ) (files view : List FileOpens) → map (within_rooms a b) files ≡ view → opens_in files ≡ opens_in view
opens_view a b files view is = in_view (λ f. f.opens) (λ a b f. refl) a b files view is

pub lent_within : (a b : ℕ) (files : List FileOpens) → delegations_in (map (within_rooms a b) files) ≡ delegations_in files
lent_within a b files = seen_within (λ f. f.delegations) (λ a b f. refl) a b files

pub lent_view : (a b : ℕ) (files view : List FileOpens) → map (within_rooms a b) files ≡ view → delegations_in files ≡ delegations_in view
lent_view a b files view is = in_view (λ f. f.delegations) (λ a b f. refl) a b files view is

module _ {X : Type 0} (get : FileOpens → List X) where
  -- what a file has stands at its node
  pub list_there : (files : List FileOpens) (node : ℕ) (file : FileOpens) → node < length files → file ≡ slice_index_or files node file
      → slice_get (map get files) node ≡ Some (get file)
  list_there [] node file below is = absurd (omega (arith, below))
  list_there (f ∷ files) zero file below is = ap (λ (f : FileOpens). Some (get f)) (sym is)
  list_there (f ∷ files) (suc node) file below is = list_there files node file (omega (arith, below)) is

  pub list_at_there : (files : List FileOpens) (node : ℕ) (file : FileOpens) → node < length files → file ≡ slice_index_or files node file → list_at node (map get files) ≡ get file
  list_at_there [] node file below is = absurd (omega (arith, below))
  list_at_there (f ∷ files) zero file below is = ap get (sym is)
  list_at_there (f ∷ files) (suc node) file below is = list_at_there files node file (omega (arith, below)) is

module _ {X : Type 0} where
  pub counted : (lists : List (List X)) → total_length lists ≡ total lists
  counted [] = refl
  counted (xs ∷ lists) = omega (arith, counted lists)

  -- how many are left of so many, where there were no fewer
  pub counted_again : (p : X → Bool) (count gone left : ℕ) (lists : List (List X)) → count ≡ total lists
      → gone ≡ count - total_length (map (filter p) lists) → left ≡ count - gone → left ≡ total (map (filter p) lists)
  counted_again p count gone left lists is less rest =
      omega (arith, is, less, rest, counted (map (filter p) lists), total_fewer p lists)

  -- there are none yet
  pub none_yet : (number : X → ℕ) (n : ℕ) (lists : List (List X)) (nodes : RoomyNodes) → lists ≡ replicate n [] → length lists < 2 ^ 32 → AreFound number nodes 0 lists
  none_yet number n lists nodes is few =
      let both = none_stand number nodes 0 0 lists (subst (λ (s : List (List X)). AllByRecursion (λ (l : List X). l ≡ []) s) (sym is) (all_empty n)) in record {
        stand = both.0;
        counted = sym both.1;
        few = few;
      }
    where
      all_empty : (n : ℕ) → AllByRecursion (λ (l : List X). l ≡ []) (replicate n [])
      all_empty zero = tt
      all_empty (suc n) = (refl, all_empty n)

pub open_differs : (n : ℕ) (o : OpenState) → is_numbered n o ≡ false → open_number o ≡ n → ⊥
open_differs n o other = eqb-false o.number n other

pub lent_differs : (n : ℕ) (d : Delegation) → is_delegation_numbered n d ≡ false → lent_number d ≡ n → ⊥
lent_differs n d other = eqb-false d.number n other

-- room of both kinds
both_rooms : (a b : ℕ) → 0 < min a b → (0 < a) × (0 < b)
both_rooms a b h = (omega (arith, h, min-le_left a b), omega (arith, h, min-le_right a b))

least_room : (a b : ℕ) → 0 < a → 0 < b → 0 < min a b
least_room zero b h k = absurd (omega (arith, h))
least_room (suc a) zero h k = absurd (omega (arith, k))
least_room (suc a) (suc b) h k = omega (arith, suc-min-suc a b)

module _ (room : FileOpens → ℕ) where
  -- there is room at the node
  abbrev HasAt : ℕ → List FileOpens → Type 0
  HasAt node files = IfSome (slice_get files node) (λ f. 0 < room f)

  module _ (a b limit : ℕ) (least : (f : FileOpens) → room (within_rooms a b f) ≡ min limit (room f)) where
    pub has_within : 0 < limit → (files : List FileOpens) (node : ℕ) → HasAt node files → HasAt node (map (within_rooms a b) files)
    has_within some [] node has = has
    has_within some (f ∷ files) zero has = subst (λ n. 0 < n) (sym (least f)) (least_room limit (room f) some has)
    has_within some (f ∷ files) (suc node) has = has_within some files node has

    pub has_without : (files : List FileOpens) (node : ℕ) → node < length files → HasAt node (map (within_rooms a b) files) → (0 < limit) × HasAt node files
    has_without [] node below has = absurd (omega (arith, below))
    has_without (f ∷ files) zero below has = both_rooms limit (room f) (subst (λ n. 0 < n) (least f) has)
    has_without (f ∷ files) (suc node) below has = has_without files node (omega (arith, below)) has

  -- files that have room keep it
  pub keeps_within : (a b limit a' b' limit' : ℕ) → ((f : FileOpens) → room (within_rooms a b f) ≡ min limit (room f)) → ((f : FileOpens) → room (within_rooms a' b' f) ≡ min limit' (room f))
      → limit ≤ limit' → (files files' : List FileOpens) (node : ℕ) → length files' ≡ length files → (HasAt node files → HasAt node files')
      → HasAt node (map (within_rooms a b) files) → HasAt node (map (within_rooms a' b') files')
  keeps_within a b limit a' b' limit' least least' more files files' node same grows has =
      elim (cases_Bool (nat_lt node (length files))) [
        | inl below ↦
            let both = has_without a b limit least files node (ltb-true _ _ below) has in
            has_within a' b' limit' least' (omega (arith, both.0, more)) files' node (grows both.1)
        | inr above ↦ no_room_at room (map (within_rooms a' b') files') node (omega (arith, ltb-false _ _ above, same, length-map files' (within_rooms a' b')))
      ]

-- the stateid names no open
pub unnamed : (id : Stateid) (opens : List (List OpenState)) → position (list_any (is_stateid_of id)) opens ≡ None → named_in id opens ≡ None
unnamed id opens none = ap (named_at id opens) none

-- it names one of this node, if any
pub named : (id : Stateid) (opens : List (List OpenState)) (node : ℕ) (here : List OpenState) → slice_get opens node ≡ Some here
    → position (list_any (is_stateid_of id)) opens ≡ cond (list_any (is_stateid_of id) here) (Some node) None
    → at_node node (open_named_by id here) ≡ named_in id opens
named id opens node here there is =
    found_if_any (is_stateid_of id) (at_node node) refl here
    ∙ by (list_any (is_stateid_of id) here)
    ∙ sym (ap (named_at id opens) is)
  where
    by : (b : Bool) → cond b (at_node node (open_named_by id here)) None ≡ named_at id opens (cond b (Some node) None)
    by true = ap (λ l. at_node node (open_named_by id l)) (sym (ap list_or_none there))
    by false = refl

pub only_open : (id : Stateid) (o : OpenState) → is_stateid_of id o ≡ true → open_number o ≡ id.number
only_open id o names = eqb-true o.number id.number (and_parts (is_of_client id.client o) (is_numbered id.number o) names).1

-- the same of delegations that pass a test
pub none_lent_in : (test : Delegation → Bool) (all : List (List Delegation)) → position (list_any test) all ≡ None → lent_in test all ≡ None
none_lent_in test all none = ap (lent_found test all) none

pub lent_in_one : (test : Delegation → Bool) (all : List (List Delegation)) (node : ℕ) (here : List Delegation) → slice_get all node ≡ Some here
    → position (list_any test) all ≡ cond (list_any test here) (Some node) None → lent_at node (find test here) ≡ lent_in test all
lent_in_one test all node here there is =
    found_if_any test (lent_at node) refl here
    ∙ by (list_any test here)
    ∙ sym (ap (lent_found test all) is)
  where
    by : (b : Bool) → cond b (lent_at node (find test here)) None ≡ lent_found test all (cond b (Some node) None)
    by true = ap (λ l. lent_at node (find test l)) (sym (ap list_or_none there))
    by false = refl

pub only_lent : (id : Stateid) (d : Delegation) → is_stateid_of_delegation id d ≡ true → lent_number d ≡ id.number
only_lent id d names = eqb-true d.number id.number (and_parts (is_lent_to id.client d) (is_delegation_numbered id.number d) names).1

pub only_numbered : (n : ℕ) (d : Delegation) → is_delegation_numbered n d ≡ true → lent_number d ≡ n
only_numbered n d names = eqb-true d.number n names

-- an OPEN of an owner that has an open joins that, and else makes one
pub joins : (owner : OpenOwner) (share : Share) (number : ℕ) (opens : List OpenState) → is_none (open_of owner opens) ≡ false
    → with_opening owner share number opens ≡ with_each (is_of owner) (after_open share) opens
joins owner share number opens has = by (open_of owner opens) has
  where
    by : (found : Option OpenState) → is_none found ≡ false
        → (if is_some found then with_each (is_of owner) (after_open share) opens else opens ++ first_open owner share number ∷ []) ≡ with_each (is_of owner) (after_open share) opens
    by None has = absurd (true≢false has)
    by (Some o) has = refl

pub makes : (owner : OpenOwner) (share : Share) (number : ℕ) (opens : List OpenState) → is_none (open_of owner opens) ≡ true
    → with_opening owner share number opens ≡ opens ++ first_open owner share number ∷ []
makes owner share number opens none = by (open_of owner opens) none
  where
    by : (found : Option OpenState) → is_none found ≡ true
        → (if is_some found then with_each (is_of owner) (after_open share) opens else opens ++ first_open owner share number ∷ []) ≡ opens ++ first_open owner share number ∷ []
    by None none = refl
    by (Some o) none = absurd (true≢false (sym none))

pub makes_none : (owner : OpenOwner) (opens : List OpenState) → is_none (open_of owner opens) ≡ true → is_some (open_of owner opens) ≡ false
makes_none owner opens none = by (open_of owner opens) none
  where
    by : (found : Option OpenState) → is_none found ≡ true → is_some found ≡ false
    by None none = refl
    by (Some o) none = absurd (true≢false (sym none))

-- a change of some leaves the numbers
pub same_numbers : {X : Type 0} (number : X → ℕ) (test : X → Bool) (change : X → X) → ((x : X) → number (change x) ≡ number x) → (x : X) → number (if test x then change x else x) ≡ number x
same_numbers number test change same x = by (test x)
  where
    by : (b : Bool) → number (if b then change x else x) ≡ number x
    by true = same x
    by false = refl

-- Some of one file's are gone, whose number is forgotten.
module _ {X : Type 0} (get : FileOpens → List X) (number_of : X → ℕ) (test : ℕ → X → Bool) (differs : (n : ℕ) (x : X) → test n x ≡ false → number_of x ≡ n → ⊥) where
  none_left : (n : ℕ) (xs : List X) → AllByRecursion (λ x. number_of x ≡ n → ⊥) (filter (λ x. not (test n x)) xs)
  none_left n [] = tt
  none_left n (x ∷ xs) = by (test n x) refl (none_left n xs)
    where
      by : (b : Bool) → test n x ≡ b → AllByRecursion (λ x. number_of x ≡ n → ⊥) (filter (λ x. not (test n x)) xs)
          → AllByRecursion (λ x. number_of x ≡ n → ⊥) (cond (not b) (x ∷ filter (λ x. not (test n x)) xs) (filter (λ x. not (test n x)) xs))
      by true is rest = rest
      by false is rest = (differs n x is, rest)

  pub gone_at : (n : ℕ) (files : List FileOpens) (node : ℕ) (old new : FileOpens) (count gone : ℕ) (nodes nodes' : RoomyNodes) → node < length files → old ≡ slice_index_or files node old
      → get new ≡ filter (λ x. not (test n x)) (get old) → gone + length (get new) ≡ length (get old) → Forgets n node nodes nodes' → AreFound number_of nodes count (map get files)
      → (gone ≤ count) × AreFound number_of nodes' (count - gone) (map get (slice_set files node new))
  gone_at n files node old new count gone nodes nodes' below is left many forgets h =
      let p : X → Bool = λ x. not (test n x) in
      let there = list_there get files node old below is in
      let within : gone ≤ count = omega (arith, many, h.counted, total_has (map get files) node (get old) there) in
      let changed = changed_at get (filter p) files node old new below is left in
      let found = subst (AreFound number_of nodes (count - gone)) (sym changed)
      (found_fewer_at number_of list_or_none (λ xs. refl) node count (map get files) nodes p (count - gone) (omega (arith, below, length-map files get))
      (λ d here.
      let same : d ≡ get old = ap (λ o. unwrap_or o []) (sym here ∙ there) in
      omega (arith, within, many, ap length left, ap length same, ap (λ l. length (filter p l)) same))
      h) in (
        within,
        record {
          stand = stand_without number_of nodes nodes' n node forgets 0 (map get (slice_set files node new))
              (λ place here there' at.
              let same : here ≡ get new = ap (λ o. unwrap_or o []) (sym there' ∙ ap (slice_get (map get (slice_set files node new))) (omega (arith, at)) ∙ set_there files node new below) in
              subst (AllByRecursion (λ x. number_of x ≡ n → ⊥)) (sym (same ∙ left)) (none_left n (get old)))
              found.stand;
          counted = found.counted;
          few = found.few;
        },
      )
    where
      set_there : (files : List FileOpens) (node : ℕ) (new : FileOpens) → node < length files → slice_get (map get (slice_set files node new)) node ≡ Some (get new)
      set_there [] node new below = absurd (omega (arith, below))
      set_there (f ∷ files) zero new below = refl
      set_there (f ∷ files) (suc node) new below = set_there files node new (omega (arith, below))

-- a delegation that is called back keeps its number
pub recalled_same : (moment : ℕ) (d : Delegation) → lent_number (with_recall moment d) ≡ lent_number d
recalled_same moment d = by (is_none d.recalled)
  where
    by : (b : Bool) → lent_number (if b then record d { recalled = Some moment } else d) ≡ lent_number d
    by true = refl
    by false = refl

-- what is left is no more
pub fewer_left : {X : Type 0} (p : X → Bool) (old new : List X) → new ≡ filter p old → length new ≤ length old
fewer_left p old new is = omega (arith, ap length is, fewer_kept p old)

-- an OPEN makes one more open, or none
pub one_more : (owner : OpenOwner) (share : Share) (number : ℕ) (old new : List OpenState) → new ≡ with_opening owner share number old
    → nat_lt (length old) (length new) ≡ is_none (open_of owner old)
one_more owner share number old new is = ap (λ l. nat_lt (length old) (length l)) is ∙ by (open_of owner old)
  where
    longer : (xs : List OpenState) (x : OpenState) → length (xs ++ x ∷ []) ≡ length xs + 1
    longer [] x = refl
    longer (y ∷ xs) x = omega (arith, longer xs x)

    by : (found : Option OpenState) → nat_lt (length old) (length (if is_some found then with_each (is_of owner) (after_open share) old else old ++ first_open owner share number ∷ [])) ≡ is_none found
    by None = lt-ltb (length old) _ (omega (arith, longer old (first_open owner share number)))
    by (Some o) = le-ltb (length old) _ (omega (arith, length-map old (λ o. if is_of owner o then after_open share o else o)))

-- one is found where one passes
pub any_found : {X : Type 0} (test : X → Bool) (xs : List X) → is_some (find test xs) ≡ list_any test xs
any_found test [] = refl
any_found test (x ∷ xs) = by (test x) (any_found test xs)
  where
    by : (b : Bool) → is_some (find test xs) ≡ list_any test xs → is_some (cond b (Some x) (find test xs)) ≡ (b || list_any test xs)
    by true rest = refl
    by false rest = rest

pub lent_or_none : {X : Type 0} (found : Option (Bor X)) → is_some found ≡ is_some (option_copied found)
lent_or_none None = refl
lent_or_none (Some x) = refl
