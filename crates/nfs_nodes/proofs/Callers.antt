-- For callers: what stands at its nodes after a change of the lists, or of the nodes that are known.
use Rattle.std.proofs.Common.{inl, inr, ◌≡◌, ◌⊎◌, ℕ, zero, suc, ◌+◌, ◌*◌, ◌^◌, ◌<◌, ◌≤◌, Bool, true, false, cond, List, [], ◌∷◌, ◌++◌, filter, length, map, nat_eq, position, slice_set, Option, Some, None, refl, sym, ap, subst, ◌∙◌, arith}
use Rattle.std.specs.Prelude.{find, slice_get, unwrap_or, ◌||◌}
use Rattle.std.specs.List.{AllByRecursion, list_any, position_from}
use Rattle.std.proofs.lemmas.Bool.{cases_Bool, cond-false, cond-true, eqb-true, eqb-false, false_from_ne_true, true≢false}
use Rattle.std.proofs.lemmas.Iterator.Adapters.{position_from-zero}
use Rattle.nfs_nodes.specs.Nodes.{Forgets, HasAt, RoomyNodes, node_of}
use Rattle.nfs_nodes.specs.Numbers.{AreFound, Rise, StandAt, StandFrom, total}

module _ {X : Type 0} where
  all_weaken : (P Q : X → Type 0) → ((x : X) → P x → Q x) → (xs : List X) → AllByRecursion P xs → AllByRecursion Q xs
  all_weaken P Q weaken [] h = tt
  all_weaken P Q weaken (x ∷ xs) h = (weaken x h.0, all_weaken P Q weaken xs h.1)

  all_both : (P Q R : X → Type 0) → ((x : X) → P x → Q x → R x) → (xs : List X) → AllByRecursion P xs → AllByRecursion Q xs → AllByRecursion R xs
  all_both P Q R both [] h k = tt
  all_both P Q R both (x ∷ xs) h k = (both x h.0 k.0, all_both P Q R both xs h.1 k.1)

  all_push : (P : X → Type 0) (xs : List X) (x : X) → AllByRecursion P xs → P x → AllByRecursion P (xs ++ x ∷ [])
  all_push P [] x h last = (last, tt)
  all_push P (y ∷ xs) x h last = (h.0, all_push P xs x h.1 last)

  all_kept : (P : X → Type 0) (p : X → Bool) (xs : List X) → AllByRecursion P xs → AllByRecursion P (filter p xs)
  all_kept P p [] h = tt
  all_kept P p (x ∷ xs) h =
      elim (p x) as (λ b. AllByRecursion P (cond b (x ∷ filter p xs) (filter p xs))) [
        | true ↦ (h.0, all_kept P p xs h.1)
        | false ↦ all_kept P p xs h.1
      ]

  pub fewer_kept : (p : X → Bool) (xs : List X) → length (filter p xs) ≤ length xs
  fewer_kept p [] = omega arith
  fewer_kept p (x ∷ xs) = by (p x) (fewer_kept p xs)
    where
      by : (b : Bool) → length (filter p xs) ≤ length xs → length (cond b (x ∷ filter p xs) (filter p xs)) ≤ suc (length xs)
      by true less = omega (arith, less)
      by false less = omega (arith, less)

  -- one list has no more things than all
  pub total_has : (lists : List (List X)) (node : ℕ) (d : List X) → slice_get lists node ≡ Some d → length d ≤ total lists
  total_has [] node d there = absurd (true≢false (cc))
  total_has (xs ∷ lists) zero d there = omega (arith, ap (λ o. length (unwrap_or o [])) there)
  total_has (xs ∷ lists) (suc node) d there = omega (arith, total_has lists node d there)

  -- how many things there are, after a change of each list, or of one
  pub total_fewer : (p : X → Bool) (lists : List (List X)) → total (map (filter p) lists) ≤ total lists
  total_fewer p [] = omega arith
  total_fewer p (xs ∷ lists) = omega (arith, fewer_kept p xs, total_fewer p lists)

  pub total_set : (lists : List (List X)) (node : ℕ) (xs ys : List X) → slice_get lists node ≡ Some xs
      → total (slice_set lists node ys) + length xs ≡ total lists + length ys
  total_set [] node xs ys there = absurd (true≢false (cc))
  total_set (zs ∷ lists) zero xs ys there =
      omega (arith, ap (λ o. length (unwrap_or o [])) there)
  total_set (zs ∷ lists) (suc node) xs ys there = omega (arith, total_set lists node xs ys there)

module _ {X : Type 0} (number : X → ℕ) where
  rise_from : (low from : ℕ) (xs : List X) → low ≤ from → Rise number from xs → Rise number low xs
  rise_from low from [] less h = omega (arith, less, h)
  rise_from low from (x ∷ xs) less h = (omega (arith, less, h.0), h.1)

  rise_kept : (p : X → Bool) (from : ℕ) (xs : List X) → Rise number from xs → Rise number from (filter p xs)
  rise_kept p from [] h = h
  rise_kept p from (x ∷ xs) h = by (p x) h.0 (rise_kept p (suc (number x)) xs h.1)
    where
      by : (b : Bool) → from ≤ number x → Rise number (suc (number x)) (filter p xs) → Rise number from (cond b (x ∷ filter p xs) (filter p xs))
      by true here rest = (here, rest)
      by false here rest = rise_from from (suc (number x)) (filter p xs) (omega (arith, here)) rest

  rise_push : (from : ℕ) (xs : List X) (y : X) → AllByRecursion (λ x. number x < number y) xs → from ≤ number y → number y < 2 ^ 32
      → Rise number from xs → Rise number from (xs ++ y ∷ [])
  rise_push from [] y above here fits h = (here, omega (arith, fits))
  rise_push from (x ∷ xs) y above here fits h = (h.0, rise_push (suc (number x)) xs y above.1 (omega (arith, above.0)) fits h.1)

  rise_same : (f : X → X) → ((x : X) → number (f x) ≡ number x) → (from : ℕ) (xs : List X) → Rise number from xs → Rise number from (map f xs)
  rise_same f same from [] h = h
  rise_same f same from (x ∷ xs) h = (omega (arith, same x, h.0), subst (λ n. Rise number (suc n) (map f xs)) (sym (same x)) (rise_same f same (suc (number x)) xs h.1))

  rise_short : (from : ℕ) (xs : List X) → Rise number from xs → length xs + from ≤ 2 ^ 32
  rise_short from [] h = omega (arith, h)
  rise_short from (x ∷ xs) h = omega (arith, h.0, rise_short (suc (number x)) xs h.1)

  total_short : (nodes : RoomyNodes) (from : ℕ) (lists : List (List X)) → StandFrom number nodes from lists → total lists ≤ length lists * 2 ^ 32
  total_short nodes from [] h = omega arith
  total_short nodes from (xs ∷ lists) h = omega (arith, rise_short 0 xs h.0.1, total_short nodes (from + 1) lists h.1)

  -- one thing more can be counted
  pub counts_more : (nodes : RoomyNodes) (count : ℕ) (lists : List (List X)) → AreFound number nodes count lists → count + 1 < 2 ^ 64
  counts_more nodes count lists h = omega (arith, h.counted, h.few, total_short nodes 0 lists h.stand)

  -- no list has a thing
  pub none_stand : (nodes : RoomyNodes) (from count : ℕ) (lists : List (List X)) → AllByRecursion (λ xs. xs ≡ []) lists → StandFrom number nodes from lists × (total lists ≡ 0)
  none_stand nodes from count [] h = (tt, refl)
  none_stand nodes from count (xs ∷ lists) h =
      let rest = none_stand nodes (from + 1) count lists h.1 in
      ((subst (StandAt number nodes from) (sym h.0) (tt, omega arith), rest.0), omega (arith, ap length h.0, rest.1))

  module _ (at : Option (List X) → List X) (is_at : (xs : List X) → at (Some xs) ≡ xs) (nodes : RoomyNodes) where
    -- some are kept, of each list or of one
    pub stand_fewer : (p : X → Bool) (from : ℕ) (lists : List (List X)) → StandFrom number nodes from lists → StandFrom number nodes from (map (filter p) lists)
    stand_fewer p from [] h = tt
    stand_fewer p from (xs ∷ lists) h = ((all_kept _ p xs h.0.0, rise_kept p 0 xs h.0.1), stand_fewer p (from + 1) lists h.1)

    pub stand_fewer_at : (p : X → Bool) (from node : ℕ) (lists : List (List X)) → StandFrom number nodes from lists
        → StandFrom number nodes from (slice_set lists node (filter p (at (slice_get lists node))))
    stand_fewer_at p from node [] h = tt
    stand_fewer_at p from zero (xs ∷ lists) h =
        (subst (λ ys. StandAt number nodes from (filter p ys)) (sym (is_at xs)) (all_kept _ p xs h.0.0, rise_kept p 0 xs h.0.1), h.1)
    stand_fewer_at p from (suc node) (xs ∷ lists) h = (h.0, stand_fewer_at p (from + 1) node lists h.1)

    -- those of one list are changed, and keep their numbers
    same_numbers : (f : X → X) → ((x : X) → number (f x) ≡ number x) → (m : ℕ) (xs : List X) → AllByRecursion (λ x. node_of (number x) nodes ≡ Some m) xs → AllByRecursion (λ x. node_of (number x) nodes ≡ Some m) (map f xs)
    same_numbers f same m [] h = tt
    same_numbers f same m (x ∷ xs) h = (ap (λ n. node_of n nodes) (same x) ∙ h.0, same_numbers f same m xs h.1)

    pub stand_changed : (f : X → X) → ((x : X) → number (f x) ≡ number x) → (from node : ℕ) (lists : List (List X)) → StandFrom number nodes from lists
        → StandFrom number nodes from (slice_set lists node (map f (at (slice_get lists node))))
    stand_changed f same from node [] h = tt
    stand_changed f same from zero (xs ∷ lists) h =
        (subst (λ ys. StandAt number nodes from (map f ys)) (sym (is_at xs)) (same_numbers f same from xs h.0.0, rise_same f same 0 xs h.0.1), h.1)
    stand_changed f same from (suc node) (xs ∷ lists) h = (h.0, stand_changed f same (from + 1) node lists h.1)

    -- as many in one list, or fewer
    pub total_at : (change : List X → List X) (node : ℕ) (lists : List (List X)) (d : List X) → slice_get lists node ≡ Some d
        → total (slice_set lists node (change (at (slice_get lists node)))) + length d ≡ total lists + length (change d)
    total_at change node lists d there =
        total_set lists node d (change (at (slice_get lists node))) there
        ∙ ap (λ xs. total lists + length (change xs)) (ap at there ∙ is_at d)

  module _ (old new : RoomyNodes) where
    -- the same numbers have nodes
    pub stand_same : ((n : ℕ) → node_of n new ≡ node_of n old) → (from : ℕ) (lists : List (List X)) → StandFrom number old from lists → StandFrom number new from lists
    stand_same same from [] h = tt
    stand_same same from (xs ∷ lists) h =
        ((all_weaken _ (λ x. node_of (number x) new ≡ Some from) (λ x known. same (number x) ∙ known) xs h.0.0, h.0.1), stand_same same (from + 1) lists h.1)

    -- a newcomer's number has its node
    module _ (y : X) (node : ℕ) (added : HasAt (number y) (Some node) old new) where
      others_known : (m : ℕ) (x : X) → number x < number y → node_of (number x) old ≡ Some m → node_of (number x) new ≡ Some m
      others_known m x less known =
          added (number x)
          ∙ cond-false (nat_eq (number y) (number x)) (Some node) (node_of (number x) old)
          (false_from_ne_true _ (λ same. omega (arith, less, eqb-true (number y) (number x) same)))
          ∙ known

      known_too : node_of (number y) new ≡ Some node
      known_too =
          added (number y)
          ∙ elim (cases_Bool (nat_eq (number y) (number y))) [
            | inl same ↦ cond-true (nat_eq (number y) (number y)) (Some node) (node_of (number y) old) same
            | inr differs ↦ absurd (eqb-false (number y) (number y) differs refl)
          ]

      stand_at : (m : ℕ) (xs : List X) → AllByRecursion (λ x. number x < number y) xs → StandAt number old m xs → StandAt number new m xs
      stand_at m xs above h = (all_both _ _ (λ x. node_of (number x) new ≡ Some m) (λ x less known. others_known m x less known) xs above h.0, h.1)

      stand_others : (from : ℕ) (lists : List (List X)) → AllByRecursion (AllByRecursion (λ x. number x < number y)) lists → StandFrom number old from lists → StandFrom number new from lists
      stand_others from [] above h = tt
      stand_others from (xs ∷ lists) above h = (stand_at from xs above.0 h.0, stand_others (from + 1) lists above.1 h.1)

      pub stand_more : (at : Option (List X) → List X) → ((xs : List X) → at (Some xs) ≡ xs) → number y < 2 ^ 32 → (from place : ℕ) (lists : List (List X)) → from + place ≡ node
          → AllByRecursion (AllByRecursion (λ x. number x < number y)) lists → StandFrom number old from lists
          → StandFrom number new from (slice_set lists place (at (slice_get lists place) ++ y ∷ []))
      stand_more at is_at fits from place [] here above h = tt
      stand_more at is_at fits from zero (xs ∷ lists) here above h =
          let stands = stand_at from xs above.0 h.0 in
          let last : node_of (number y) new ≡ Some from = known_too ∙ ap Some (omega (arith, here)) in (
            subst (λ ys. StandAt number new from (ys ++ y ∷ [])) (sym (is_at xs))
                (all_push _ xs y stands.0 last, rise_push 0 xs y above.0 (omega arith) fits stands.1),
            stand_others (from + 1) lists above.1 h.1,
          )
      stand_more at is_at fits from (suc place) (xs ∷ lists) here above h =
          (stand_at from xs above.0 h.0, stand_more at is_at fits (from + 1) place lists (omega (arith, here)) above.1 h.1)

    -- a number that its node's list doesn't have is forgotten
    module _ (n node : ℕ) (forgets : Forgets n node old new) where
      stand_without_in : (m : ℕ) (xs : List X) → (m ≡ node → AllByRecursion (λ x. number x ≡ n → ⊥) xs)
          → AllByRecursion (λ x. node_of (number x) old ≡ Some m) xs → AllByRecursion (λ x. node_of (number x) new ≡ Some m) xs
      stand_without_in m [] none h = tt
      stand_without_in m (x ∷ xs) none h =
          (forgets (number x) m h.0 (λ is here. (none here).0 is), stand_without_in m xs (λ here. (none here).1) h.1)

      pub stand_without : (from : ℕ) (lists : List (List X)) → ((place : ℕ) (xs : List X) → slice_get lists place ≡ Some xs → from + place ≡ node → AllByRecursion (λ x. number x ≡ n → ⊥) xs)
          → StandFrom number old from lists → StandFrom number new from lists
      stand_without from [] none h = tt
      stand_without from (xs ∷ lists) none h = (
        (stand_without_in from xs (λ here. none zero xs refl (omega (arith, here))) h.0.0, h.0.1),
        stand_without (from + 1) lists (λ place ys there here. none (suc place) ys there (omega (arith, here))) h.1,
      )

  -- The first list with a thing that passes a test, where all that passes has one number.
  module _ (nodes : RoomyNodes) (test : X → Bool) (n : ℕ) (only : (x : X) → test x ≡ true → number x ≡ n) where
    none_passes : (m : ℕ) (xs : List X) → (node_of n nodes ≡ Some m → ⊥) → AllByRecursion (λ x. node_of (number x) nodes ≡ Some m) xs → list_any test xs ≡ false
    none_passes m [] not_here h = refl
    none_passes m (x ∷ xs) not_here h =
        let fails : test x ≡ false = false_from_ne_true _ (λ passes. not_here (ap (λ k. node_of k nodes) (sym (only x passes)) ∙ h.0)) in
        ap (λ b. b || list_any test xs) fails ∙ none_passes m xs not_here h.1

    nowhere_from : (from : ℕ) (lists : List (List X)) → ((m : ℕ) → from ≤ m → m < from + length lists → node_of n nodes ≡ Some m → ⊥)
        → StandFrom number nodes from lists → position_from (list_any test) from lists ≡ None
    nowhere_from from [] not_here h = refl
    nowhere_from from (xs ∷ lists) not_here h =
        cond-false (list_any test xs) (Some from) (position_from (list_any test) (from + 1) lists)
        (none_passes from xs (not_here from (omega arith) (omega arith)) h.0.0)
        ∙ nowhere_from (from + 1) lists (λ m above below. not_here m (omega (arith, above)) (omega (arith, below))) h.1

    somewhere_from : (from place : ℕ) (lists : List (List X)) (xs : List X) → slice_get lists place ≡ Some xs → node_of n nodes ≡ Some (from + place)
        → StandFrom number nodes from lists → position_from (list_any test) from lists ≡ cond (list_any test xs) (Some (from + place)) None
    somewhere_from from place [] xs there here h = absurd (true≢false (cc))
    somewhere_from from zero (ys ∷ lists) xs there here h =
        let same : ys ≡ xs = ap (λ o. unwrap_or o []) there in
        let rest : position_from (list_any test) (from + 1) lists ≡ None =
        nowhere_from (from + 1) lists (λ m above below is. omega (arith, above, ap (λ o. unwrap_or o 0) (sym here ∙ is))) h.1 in
        let this : Some from ≡ Some (from + zero) = ap Some (omega arith) in
        λ i. cond (list_any test (same i)) (this i) (rest i)
    somewhere_from from (suc place) (ys ∷ lists) xs there here h =
        let next : from + suc place ≡ (from + 1) + place = omega arith in
        cond-false (list_any test ys) (Some from) (position_from (list_any test) (from + 1) lists)
        (none_passes from ys (λ is. omega (arith, ap (λ o. unwrap_or o 0) (sym here ∙ is))) h.0.0)
        ∙ somewhere_from (from + 1) place lists xs there (here ∙ ap Some next) h.1
        ∙ ap (λ m. cond (list_any test xs) (Some m) None) (sym next)

    -- the number has no node
    pub nowhere : (lists : List (List X)) → node_of n nodes ≡ None → StandFrom number nodes 0 lists → position (list_any test) lists ≡ None
    nowhere lists none h =
        position_from-zero (list_any test) lists
        ∙ nowhere_from 0 lists (λ m above below is. true≢false (ap (λ o. is_here o) (sym is ∙ none))) h
      where
        is_here : Option ℕ → Bool
        is_here None = false
        is_here (Some m) = true

    -- it has one that there isn't
    pub nowhere_beyond : (lists : List (List X)) (node : ℕ) → node_of n nodes ≡ Some node → length lists ≤ node → StandFrom number nodes 0 lists → position (list_any test) lists ≡ None
    nowhere_beyond lists node some beyond h =
        position_from-zero (list_any test) lists
        ∙ nowhere_from 0 lists (λ m above below is. omega (arith, beyond, below, ap (λ o. unwrap_or o 0) (sym some ∙ is))) h

    -- it has one that there is
    pub somewhere : (lists : List (List X)) (node : ℕ) (xs : List X) → node_of n nodes ≡ Some node → slice_get lists node ≡ Some xs
        → StandFrom number nodes 0 lists → position (list_any test) lists ≡ cond (list_any test xs) (Some node) None
    somewhere lists node xs some there h =
        let this : 0 + node ≡ node = omega arith in
        position_from-zero (list_any test) lists
        ∙ somewhere_from 0 node lists xs there (some ∙ ap Some (sym this)) h
        ∙ ap (λ m. cond (list_any test xs) (Some m) None) this

-- What is kept of the things that are found, where they are so many.
module _ {X : Type 0} where
  length_push : (xs : List X) (y : X) → length (xs ++ y ∷ []) ≡ length xs + 1
  length_push [] y = refl
  length_push (x ∷ xs) y = omega (arith, length_push xs y)

  as_many_set : (lists : List (List X)) (node : ℕ) (ys : List X) → length (slice_set lists node ys) ≡ length lists
  as_many_set [] node ys = refl
  as_many_set (xs ∷ lists) zero ys = refl
  as_many_set (xs ∷ lists) (suc node) ys = omega (arith, as_many_set lists node ys)

  as_many_mapped : (f : List X → List X) (lists : List (List X)) → length (map f lists) ≡ length lists
  as_many_mapped f [] = refl
  as_many_mapped f (xs ∷ lists) = omega (arith, as_many_mapped f lists)

  as_many : (f : X → X) (xs : List X) → length (map f xs) ≡ length xs
  as_many f [] = refl
  as_many f (x ∷ xs) = omega (arith, as_many f xs)

  there_or_not : (lists : List (List X)) (node : ℕ) → ((d : List X) × (slice_get lists node ≡ Some d)) ⊎ ((ys : List X) → slice_set lists node ys ≡ lists)
  there_or_not [] node = inr (λ ys. refl)
  there_or_not (xs ∷ lists) zero = inl (xs, refl)
  there_or_not (xs ∷ lists) (suc node) =
      elim (there_or_not lists node) [
        | inl there ↦ inl there
        | inr none ↦ inr (λ ys. ap (λ more. xs ∷ more) (none ys))
      ]

  pub is_below : (lists : List (List X)) (node : ℕ) → node < length lists → (d : List X) × (slice_get lists node ≡ Some d)
  is_below [] node below = absurd (omega (arith, below))
  is_below (xs ∷ lists) zero below = (xs, refl)
  is_below (xs ∷ lists) (suc node) below = is_below lists node (omega (arith, below))

  module _ (number : X → ℕ) (at : Option (List X) → List X) (is_at : (xs : List X) → at (Some xs) ≡ xs) (node count : ℕ) (lists : List (List X)) where
    pub found_more : (old new : RoomyNodes) (y : X) → HasAt (number y) (Some node) old new → number y < 2 ^ 32 → node < length lists
        → AllByRecursion (AllByRecursion (λ x. number x < number y)) lists → AreFound number old count lists
        → AreFound number new (count + 1) (slice_set lists node (at (slice_get lists node) ++ y ∷ []))
    found_more old new y added fits below above h =
        let there = is_below lists node below in record {
          stand = stand_more number old new y node added at is_at fits 0 node lists (omega arith) above h.stand;
          counted = omega (arith, h.counted, length_push there.0 y, total_at number at is_at new (λ xs. xs ++ y ∷ []) node lists there.0 there.1);
          few = omega (arith, h.few, as_many_set lists node (at (slice_get lists node) ++ y ∷ []));
        }

    pub found_fewer_at : (nodes : RoomyNodes) (p : X → Bool) (fewer : ℕ) → node < length lists
        → ((d : List X) → slice_get lists node ≡ Some d → fewer + length d ≡ count + length (filter p d)) → AreFound number nodes count lists
        → AreFound number nodes fewer (slice_set lists node (filter p (at (slice_get lists node))))
    found_fewer_at nodes p fewer below less h =
        let there = is_below lists node below in record {
          stand = stand_fewer_at number at is_at nodes p 0 node lists h.stand;
          counted = omega (arith, h.counted, less there.0 there.1, total_at number at is_at nodes (filter p) node lists there.0 there.1);
          few = omega (arith, h.few, as_many_set lists node (filter p (at (slice_get lists node))));
        }

    pub found_changed : (nodes : RoomyNodes) (f : X → X) → ((x : X) → number (f x) ≡ number x) → AreFound number nodes count lists
        → AreFound number nodes count (slice_set lists node (map f (at (slice_get lists node))))
    found_changed nodes f same h = record {
      stand = stand_changed number at is_at nodes f same 0 node lists h.stand;
      counted = elim (there_or_not lists node) [
        | inl there ↦ omega (arith, h.counted, as_many f there.0, total_at number at is_at nodes (map f) node lists there.0 there.1)
        | inr none ↦ omega (arith, h.counted, ap total (none (map f (at (slice_get lists node)))))
      ];
      few = omega (arith, h.few, as_many_set lists node (map f (at (slice_get lists node))));
    }

    pub found_fewer : (nodes : RoomyNodes) (p : X → Bool) (fewer : ℕ) → fewer ≡ total (map (filter p) lists) → AreFound number nodes count lists
        → AreFound number nodes fewer (map (filter p) lists)
    found_fewer nodes p fewer is h = record {
      stand = stand_fewer number at is_at nodes p 0 lists h.stand;
      counted = is;
      few = omega (arith, h.few, as_many_mapped (filter p) lists);
    }

-- what is found in a list, where the test tells whether there is something
pub found_if_any : {X Y : Type 0} (test : X → Bool) (seen : Option X → Option Y) → seen None ≡ None → (xs : List X) → seen (find test xs) ≡ cond (list_any test xs) (seen (find test xs)) None
found_if_any test seen none [] = none
found_if_any test seen none (x ∷ xs) = by (test x) (found_if_any test seen none xs)
  where
    by : (b : Bool) → seen (find test xs) ≡ cond (list_any test xs) (seen (find test xs)) None
        → seen (cond b (Some x) (find test xs)) ≡ cond (b || list_any test xs) (seen (cond b (Some x) (find test xs))) None
    by true rest = refl
    by false rest = rest
