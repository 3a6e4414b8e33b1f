-- Rows that a slab has, by places that lead to them.
use Rattle.std.proofs.Common.{vec_len, ◌≡◌, ◌≢◌, ℕ, suc, ◌+◌, ◌*◌, ◌<◌, ◌≤◌, length-append, nat_eq, take, drop, ◌&&◌, ◌==◌, Bool, true, false, not, cond, List, [], ◌∷◌, ◌++◌, length, get_or, find, option_map, Option, Some, None, is_some, IsSome, inl, inr, refl, sym, ap, ◌∙◌, subst, arith}
use Rattle.std.specs.List.{AllByRecursion, cons_option}
use Rattle.std.specs.Prelude.{◌⊎◌}
use Rattle.std.specs.Option.{option_map_or}
use Rattle.std.specs.Global.{Vec}
use Rattle.indexmap.specs.IndexMap.{IndexMap, UpdatesBy}
use Rattle.indexmap.specs.IndexMap as indexes
use Rattle.std.proofs.lemmas.Bool.{cases_eq, eqb-true, eqb-false, false_from_ne_true, true_from_ne_false}
use Rattle.std.proofs.lemmas.List.{drop_more, map-append}
use Rattle.std.proofs.lemmas.List.Elements.{filter-append, filter_map-append}
use Rattle.std.proofs.lemmas.List.Sums.{sum_by-set}
use Rattle.slab.specs.Slab.{Slab, get, slab_len, with_value, Updates}
use Rattle.slab.proofs.SlabLemmas.{ContainsKey-within, Updates-with_value}
use Rattle.nfs_rows.specs.declared.place.Place.{Place}
use Rattle.nfs_rows.specs.Rows.{IsAbove, Row, StandInOrder, is_named, is_numbered, pair_in, value_in, with_value as with_row, without}
use Rattle.nfs_rows.specs.Places.{AreFew, AreKept, has_row, row_of, EndsKept, HasRoom, HasRow, HasRowAt, IsIndexed, IsPlaceOf, KeysDiffer, NumbersRise, kept, marked, number_at, row_with, rows_at, rows_of}
use Rattle.nfs_rows.proofs.Leading.{hashes_before, hashes_behind, indexed_less, led, none_led}
use Rattle.nfs_rows.proofs.Marks.{Cut, above_marks, cut, kept_first, kept_mark, kept_push, live_not, number_is, rise_kept, rise_marked}
use Rattle.nfs_rows.proofs.Each.{all_append, all_around, all_back, all_weaken, change_none, drop_none, find_none, find_past, so_around, so_before, so_behind, so_push}

and_yes : (a b : Bool) → (a && b) ≡ true → (a ≡ true) × (b ≡ true)
and_yes true b is = (refl, is)
and_yes false b is = absurd (not_true is)
  where
    not_true : false ≡ true → ⊥
    not_true is = cc

and_no : (b : Bool) → (b && false) ≡ false
and_no true = refl
and_no false = refl

-- the number at a place that was found
pub number_found : (number : ℕ) (ps : List Place) (at : ℕ) (d : Place) → IsPlaceOf number ps (Some at) → number_at at ps ≡ number
number_found number ps at d found = number_is ps at d found.0 ∙ found.1 d

-- the keys before and behind a place are others
pub keys_before : (front : List Place) (p : Place) (back : List Place) → KeysDiffer (front ++ p ∷ back) → AllByRecursion (λ q. q.key ≢ p.key) front
keys_before front p back apart = so_before (λ p q. p.key ≢ q.key) front p back apart

pub keys_behind : (front : List Place) (p : Place) (back : List Place) → KeysDiffer (front ++ p ∷ back) → AllByRecursion (λ q. q.key ≢ p.key) back
keys_behind front p back apart =
    all_weaken (λ q. p.key ≢ q.key) (λ q. q.key ≢ p.key) (λ q differs same. differs (sym same)) back (so_behind (λ p q. p.key ≢ q.key) front p back apart)

module _ {V : Type 0} where
  pub value_at : (slab : Slab V) (p : Place) → HasRow slab p → (v : V) × (get slab p.key ≡ Some v)
  value_at slab p has = by (get slab p.key) refl has
    where
      by : (found : Option V) → get slab p.key ≡ found → IsSome found → (v : V) × (get slab p.key ≡ Some v)
      by None is h = absurd (cc)
      by (Some v) is h = (v, is)

  pub same_value : (v w : V) → Some v ≡ Some w → v ≡ w
  same_value v w is = cc

  pub rows_first : (slab : Slab V) (p : Place) (ps : List Place) (v : V) → get slab p.key ≡ Some v → rows_of slab (p ∷ ps) ≡ row_with p v ∷ rows_of slab ps
  rows_first slab p ps v is = rw is refl

  pub rows_append : (slab : Slab V) (ps qs : List Place) → rows_of slab (ps ++ qs) ≡ rows_of slab ps ++ rows_of slab qs
  rows_append slab ps qs = filter_map-append (λ (p : Place). option_map (row_with p) (get slab p.key)) ps qs

  pub rows_cut : (slab : Slab V) (front : List Place) (p : Place) (back : List Place) (v : V) → get slab p.key ≡ Some v
      → rows_of slab (front ++ p ∷ back) ≡ rows_of slab front ++ row_with p v ∷ rows_of slab back
  rows_cut slab front p back v is = rows_append slab front (p ∷ back) ∙ ap (λ rows. rows_of slab front ++ rows) (rows_first slab p back v is)

  pub length_rows : (slab : Slab V) (ps : List Place) → AllByRecursion (HasRow slab) ps → length (rows_of slab ps) ≡ length ps
  length_rows slab [] h = refl
  length_rows slab (p ∷ ps) h =
      let v = value_at slab p h.0 in
      ap length (rows_first slab p ps v.0 v.1) ∙ ap suc (length_rows slab ps h.1)

  -- what is true of the places is true of the rows
  pub rows_all : (slab : Slab V) (P : Place → Type 0) (Q : Row V → Type 0) → ((p : Place) (v : V) → P p → Q (row_with p v)) → (ps : List Place)
      → AllByRecursion P ps → AllByRecursion Q (rows_of slab ps)
  rows_all slab P Q leads [] h = tt
  rows_all slab P Q leads (p ∷ ps) h = by (get slab p.key) (rows_all slab P Q leads ps h.1)
    where
      by : (found : Option V) → AllByRecursion Q (rows_of slab ps) → AllByRecursion Q (cons_option (option_map (row_with p) found) (rows_of slab ps))
      by None rest = rest
      by (Some v) rest = (leads p v h.0, rest)

  -- and the other way round
  pub places_all : (slab : Slab V) (P : Place → Type 0) (Q : Row V → Type 0) → ((p : Place) (v : V) → Q (row_with p v) → P p) → (ps : List Place)
      → AllByRecursion (HasRow slab) ps → AllByRecursion Q (rows_of slab ps) → AllByRecursion P ps
  places_all slab P Q leads [] has h = tt
  places_all slab P Q leads (p ∷ ps) has h =
      let v = value_at slab p has.0 in
      let both : AllByRecursion Q (row_with p v.0 ∷ rows_of slab ps) = subst (AllByRecursion Q) (rows_first slab p ps v.0 v.1) h in
      (leads p v.0 both.0, places_all slab P Q leads ps has.1 both.1)

  pub order_rows : (slab : Slab V) (ps : List Place) → NumbersRise ps → StandInOrder (rows_of slab ps)
  order_rows slab [] rise = tt
  order_rows slab (p ∷ ps) rise = by (get slab p.key) (order_rows slab ps rise.1)
    where
      by : (found : Option V) → StandInOrder (rows_of slab ps) → StandInOrder (cons_option (option_map (row_with p) found) (rows_of slab ps))
      by None rest = rest
      by (Some v) rest = (rows_all slab (λ q. p.number < q.number) (λ r. p.number < r.number) (λ q w below. below) ps rise.0, rest)

  -- rows with other numbers

  pub rows_others : (slab : Slab V) (number : ℕ) (ps : List Place) → AllByRecursion (λ p. p.number ≢ number) ps → AllByRecursion (λ r. is_numbered number r ≡ false) (rows_of slab ps)
  rows_others slab number ps h =
      rows_all slab (λ p. p.number ≢ number) (λ r. is_numbered number r ≡ false) (λ p v differs. false_from_ne_true _ (λ same. differs (eqb-true p.number number same))) ps h

  numbered : (p : Place) (v : V) → is_numbered p.number (row_with p v) ≡ true
  numbered p v = true_from_ne_false _ (λ no. eqb-false p.number p.number no refl)

  module _ (front : List Place) (p : Place) (back : List Place) (rise : NumbersRise (front ++ p ∷ back)) where
    others_before : (slab : Slab V) → AllByRecursion (λ r. is_numbered p.number r ≡ false) (rows_of slab front)
    others_before slab =
        rows_others slab p.number front (all_weaken (λ q. q.number < p.number) (λ q. q.number ≢ p.number) (λ q below same. omega (arith, below, same)) front (so_before (λ p q. p.number < q.number) front p back rise))

    others_behind : (slab : Slab V) → AllByRecursion (λ r. is_numbered p.number r ≡ false) (rows_of slab back)
    others_behind slab =
        rows_others slab p.number back (all_weaken (λ q. p.number < q.number) (λ q. q.number ≢ p.number) (λ q above same. omega (arith, above, same)) back (so_behind (λ p q. p.number < q.number) front p back rise))

    -- the row at the place is found by its number
    pub find_cut : (slab : Slab V) (v : V) → get slab p.key ≡ Some v → find (is_numbered p.number) (rows_of slab (front ++ p ∷ back)) ≡ Some (row_with p v)
    find_cut slab v is =
        ap (find (is_numbered p.number)) (rows_cut slab front p back v is)
        ∙ find_past (is_numbered p.number) (rows_of slab front) (row_with p v ∷ rows_of slab back) (others_before slab)
        ∙ ap (λ b. cond b (Some (row_with p v)) (find (is_numbered p.number) (rows_of slab back))) (numbered p v)

    pub without_cut : (slab : Slab V) (v : V) → get slab p.key ≡ Some v → without (is_numbered p.number) (rows_of slab (front ++ p ∷ back)) ≡ rows_of slab (front ++ back)
    without_cut slab v is =
        let test = is_numbered {V = V} p.number in
        ap (without test) (rows_cut slab front p back v is)
        ∙ filter-append (λ r. not (test r)) (rows_of slab front) (row_with p v ∷ rows_of slab back)
        ∙ (λ i. drop_none test (rows_of slab front) (others_before slab) i ++ cond (not (numbered p v i)) (row_with p v ∷ without test (rows_of slab back)) (without test (rows_of slab back)))
        ∙ ap (λ rows. rows_of slab front ++ rows) (drop_none test (rows_of slab back) (others_behind slab))
        ∙ sym (rows_append slab front back)

    pub change_cut : (slab : Slab V) (v w : V) → get slab p.key ≡ Some v
        → with_row p.number w (rows_of slab (front ++ p ∷ back)) ≡ rows_of slab front ++ row_with p w ∷ rows_of slab back
    change_cut slab v w is =
        let test = is_numbered {V = V} p.number in
        let change : Row V → Row V = λ r. record r { value = w } in
        ap (with_row p.number w) (rows_cut slab front p back v is)
        ∙ map-append (λ r. cond (test r) (change r) r) (rows_of slab front) (row_with p v ∷ rows_of slab back)
        ∙ (λ i. change_none test change (rows_of slab front) (others_before slab) i ++ cond (numbered p v i) (row_with p w) (row_with p v) ∷ change_none test change (rows_of slab back) (others_behind slab) i)

  -- a change of one key leaves the rows at others
  pub rows_elsewhere : (old new : Slab V) (key : ℕ) (slot : Option V) (ps : List Place) → Updates old new key slot → AllByRecursion (λ p. p.key ≢ key) ps → rows_of new ps ≡ rows_of old ps
  rows_elsewhere old new key slot [] updates others = refl
  rows_elsewhere old new key slot (p ∷ ps) updates others =
      rw (updates.others p.key others.0) (rw (rows_elsewhere old new key slot ps updates others.1) refl)

  pub there_elsewhere : (old new : Slab V) (key : ℕ) (slot : Option V) (ps : List Place) → Updates old new key slot → AllByRecursion (λ p. p.key ≢ key) ps
      → AllByRecursion (HasRow old) ps → AllByRecursion (HasRow new) ps
  there_elsewhere old new key slot [] updates others h = tt
  there_elsewhere old new key slot (p ∷ ps) updates others h =
      (subst IsSome (sym (updates.others p.key others.0)) h.0, there_elsewhere old new key slot ps updates others.1 h.1)

  -- a key that is vacant is none of theirs
  pub elsewhere_vacant : (slab : Slab V) (key : ℕ) (ps : List Place) → AllByRecursion (HasRow slab) ps → get slab key ≡ None → AllByRecursion (λ p. p.key ≢ key) ps
  elsewhere_vacant slab key ps h vacant =
      all_weaken (HasRow slab) (λ p. p.key ≢ key)
      (λ p has same. let v = value_at slab p has in absurd (none_some v.0 (sym vacant ∙ ap (get slab) (sym same) ∙ v.1))) ps h
    where
      none_some : (v : V) → None ≡ Some v → ⊥
      none_some v is = cc

  pub slab_len-with_value : (slab : Slab V) (key : ℕ) (v w : V) → get slab key ≡ Some v → slab_len (with_value slab key w) ≡ slab_len slab
  slab_len-with_value slab key v w is =
      by (sum_by-set (λ (o : Option V). cond (is_some o) 1 0) slab.slots key (Some w) None (ContainsKey-within slab key (subst IsSome (sym is) refl)))
    where
      by : slab_len (with_value slab key w) + cond (is_some (get_or slab.slots key None)) 1 0 ≡ slab_len slab + 1 → slab_len (with_value slab key w) ≡ slab_len slab
      by sums = omega (arith, subst (λ (o : Option V). slab_len (with_value slab key w) + cond (is_some o) 1 0 ≡ slab_len slab + 1) is sums)

  -- by what `place_of` answers

  pub none_found : (slab : Slab V) (number : ℕ) (ps : List Place) → IsPlaceOf number ps None → find (is_numbered number) (rows_at slab ps) ≡ None
  none_found slab number ps others = find_none (is_numbered number) (rows_at slab ps) (rows_others slab number (kept ps) others)

  pub none_changed : (slab : Slab V) (number : ℕ) (w : V) (ps : List Place) → IsPlaceOf number ps None → with_row number w (rows_at slab ps) ≡ rows_at slab ps
  none_changed slab number w ps others = change_none (is_numbered number) (λ r. record r { value = w }) (rows_at slab ps) (rows_others slab number (kept ps) others)

  pub one_found : (slab : Slab V) (number : ℕ) (ps : List Place) (at : ℕ) (p : Place) → NumbersRise ps → AllByRecursion (HasRow slab) (kept ps)
      → IsPlaceOf number ps (Some at) → p ≡ get_or ps at p → value_in (find (is_numbered number) (rows_at slab ps)) ≡ get slab p.key
  one_found slab number ps at p rise there found is =
      let here = subst (Cut ps at) (sym is) (cut ps at p found.0 (found.2 p)) in
      let has = (all_back (HasRow slab) here.front (p ∷ here.back) (subst (AllByRecursion (HasRow slab)) here.whole there)).0 in
      let v = value_at slab p has in
      let numbered : number ≡ p.number = sym (ap (λ (p : Place). p.number) is ∙ found.1 p) in
      ap value_in (
      (λ i. find (is_numbered (numbered i)) (rows_of slab (here.whole i)))
      ∙ find_cut here.front p here.back (subst NumbersRise here.whole (rise_kept ps rise)) slab v.0 v.1
      )
      ∙ sym v.1

  -- where the row at a place that was found gets another value

  there_changed : (old new : Slab V) (key : ℕ) (w : V) (ps : List Place) → Updates old new key (Some w) → AllByRecursion (HasRow old) ps → AllByRecursion (HasRow new) ps
  there_changed old new key w ps updates h = all_weaken (HasRow old) (HasRow new) (λ p has. by p has (cases_eq p.key key)) ps h
    where
      by : (p : Place) → HasRow old p → (p.key ≡ key) ⊎ (p.key ≢ key) → HasRow new p
      by p has (inl same) = subst IsSome (sym (ap (get new) same ∙ updates.changed)) refl
      by p has (inr other) = subst IsSome (sym (updates.others p.key other)) has

  module _ {S : Type 0} (slab : Slab V) (index : IndexMap ℕ ℕ S) (clashed : Bool) (number : ℕ) (ps : List Place) (at : ℕ) (p : Place) (are : AreKept slab ps index clashed)
      (found : IsPlaceOf number ps (Some at)) (is : p ≡ get_or ps at p) where
    pub value_found : (v : V) × (get slab p.key ≡ Some v)
    value_found =
        let here = subst (Cut ps at) (sym is) (cut ps at p found.0 (found.2 p)) in
        value_at slab p (all_back (HasRow slab) here.front (p ∷ here.back) (subst (AllByRecursion (HasRow slab)) here.whole are.there)).0

    pub kept_changed : (w : V) → AreKept (with_value slab p.key w) ps index clashed
    kept_changed w =
        let has = value_found.1 in
        record {
          rise = are.rise;
          there = there_changed slab (with_value slab p.key w) p.key w (kept ps) (Updates-with_value slab p.key w (subst IsSome (sym has) refl)) are.there;
          apart = are.apart;
          all = slab_len-with_value slab p.key value_found.0 w has ∙ are.all;
          indexed = are.indexed;
        }

    pub room_changed : (w : V) (places : Vec Place) (room : ℕ) → HasRoom slab places index room → HasRoom (with_value slab p.key w) places index room
    room_changed w places room has = record {
      in_slab = subst (λ n. n + room ≤ slab.capacity) (sym (slab_len-with_value slab p.key value_found.0 w value_found.1)) has.in_slab;
      in_places = has.in_places;
      in_index = has.in_index;
    }

    pub few_changed : (w : V) (places : Vec Place) → AreFew slab places → AreFew (with_value slab p.key w) places
    few_changed w places few =
        subst (λ n. vec_len places ≤ 2 * n) (sym (slab_len-with_value slab p.key value_found.0 w value_found.1)) few

    pub rows_changed : (w : V) → rows_at (with_value slab p.key w) ps ≡ with_row number w (rows_at slab ps)
    rows_changed w =
        let new = with_value slab p.key w in
        let here = subst (Cut ps at) (sym is) (cut ps at p found.0 (found.2 p)) in
        let v = value_found in
        let updates = Updates-with_value slab p.key w (subst IsSome (sym v.1) refl) in
        let rise : NumbersRise (here.front ++ p ∷ here.back) = subst NumbersRise here.whole (rise_kept ps are.rise) in
        let apart : KeysDiffer (here.front ++ p ∷ here.back) = subst KeysDiffer here.whole are.apart in
        let numbered : p.number ≡ number = ap (λ (p : Place). p.number) is ∙ found.1 p in
        ap (rows_of new) here.whole
        ∙ rows_cut new here.front p here.back w updates.changed
        ∙ (λ i. rows_elsewhere slab new p.key (Some w) here.front updates (keys_before here.front p here.back apart) i
        ++ row_with p w ∷ rows_elsewhere slab new p.key (Some w) here.back updates (keys_behind here.front p here.back apart) i)
        ∙ sym (change_cut here.front p here.back rise slab v.0 w v.1)
        ∙ (λ i. with_row (numbered i) w (rows_of slab (sym here.whole i)))

  -- where a place gets a mark, and its row is removed
  module _ (old new : Slab V) (ps : List Place) (at : ℕ) (p : Place) (there : HasRowAt at ps) (is : (d : Place) → get_or ps at d ≡ p) where
    taken_cut : Cut ps at p
    taken_cut = subst (Cut ps at) (is p) (cut ps at p there.0 (there.1 p))

    pub taken_value : AllByRecursion (HasRow old) (kept ps) → (v : V) × (get old p.key ≡ Some v)
    taken_value rows =
        let here = taken_cut in
        value_at old p (all_back (HasRow old) here.front (p ∷ here.back) (subst (AllByRecursion (HasRow old)) here.whole rows)).0

    pub number_taken : number_at at ps ≡ p.number
    number_taken = number_is ps at p there.0 ∙ ap (λ (p : Place). p.number) (is p)

    module _ {S : Type 0} (index : IndexMap ℕ ℕ S) (are : AreKept old ps index true) where
      taken_rise : NumbersRise (taken_cut.front ++ p ∷ taken_cut.back)
      taken_rise = subst NumbersRise taken_cut.whole (rise_kept ps are.rise)

      pub taken_found : (v : V) → get old p.key ≡ Some v → value_in (find (is_numbered (number_at at ps)) (rows_at old ps)) ≡ Some v
      taken_found v has =
          let here = taken_cut in
          ap value_in ((λ i. find (is_numbered (number_taken i)) (rows_of old (here.whole i))) ∙ find_cut here.front p here.back taken_rise old v has)

      pub taken_rows : Updates old new p.key None → rows_at new (marked at ps) ≡ without (is_numbered (number_at at ps)) (rows_at old ps)
      taken_rows updates =
          let here = taken_cut in
          let v = taken_value are.there in
          let apart : KeysDiffer (here.front ++ p ∷ here.back) = subst KeysDiffer here.whole are.apart in
          let others = all_append (λ q. q.key ≢ p.key) here.front here.back (keys_before here.front p here.back apart) (keys_behind here.front p here.back apart) in
          ap (rows_of new) here.less
          ∙ rows_elsewhere old new p.key None (here.front ++ here.back) updates others
          ∙ sym (without_cut here.front p here.back taken_rise old v.0 v.1)
          ∙ (λ i. without (is_numbered (sym number_taken i)) (rows_of old (sym here.whole i)))

    pub taken_kept : {S : Type 0} (before after : IndexMap ℕ ℕ S) (clashed : Bool) → AreKept old ps before clashed → Updates old new p.key None → slab_len new + 1 ≡ slab_len old
        → UpdatesBy nat_eq (nat_eq p.hash) before after None → AreKept new (marked at ps) after clashed
    taken_kept before after clashed are updates one_less index =
        let here = taken_cut in
        let rise : NumbersRise (here.front ++ p ∷ here.back) = subst NumbersRise here.whole (rise_kept ps are.rise) in
        let apart : KeysDiffer (here.front ++ p ∷ here.back) = subst KeysDiffer here.whole are.apart in
        let others = all_append (λ q. q.key ≢ p.key) here.front here.back (keys_before here.front p here.back apart) (keys_behind here.front p here.back apart) in
        record {
          rise = rise_marked ps at are.rise;
          there = subst (AllByRecursion (HasRow new)) (sym here.less)
              (there_elsewhere old new p.key None (here.front ++ here.back) updates others
              (all_around (HasRow old) here.front p here.back (subst (AllByRecursion (HasRow old)) here.whole are.there)));
          apart = subst KeysDiffer (sym here.less) (so_around (λ p q. p.key ≢ q.key) here.front p here.back apart);
          all = omega (arith, one_less, are.all, ap length here.whole, ap length here.less, length-append here.front (p ∷ here.back), length-append here.front here.back);
          indexed = λ clean. subst (IsIndexed after) (sym here.less)
              (indexed_less before here.front p here.back rise (subst (IsIndexed before) here.whole (are.indexed clean)) after index);
        }

  -- where a row is added
  module _ (old new : Slab V) (ps : List Place) (p : Place) (v : V) (live : p.gone ≡ false) (updates : Updates old new p.key (Some v)) (vacant : get old p.key ≡ None) where
    pub added_rows : AllByRecursion (HasRow old) (kept ps) → rows_at new (ps ++ p ∷ []) ≡ rows_at old ps ++ row_with p v ∷ []
    added_rows there =
        ap (rows_of new) (kept_push ps p live)
        ∙ rows_cut new (kept ps) p [] v updates.changed
        ∙ ap (λ rows. rows ++ row_with p v ∷ []) (rows_elsewhere old new p.key (Some v) (kept ps) updates (elsewhere_vacant old p.key (kept ps) there vacant))

    pub added_kept : {S : Type 0} (before after : IndexMap ℕ ℕ S) (clashed then : Bool) → AreKept old ps before clashed → EndsKept ps → IsAbove p.number (rows_at old ps)
        → slab_len new ≡ slab_len old + 1 → (then ≡ false → IsIndexed after (kept ps ++ p ∷ [])) → AreKept new (ps ++ p ∷ []) after then
    added_kept before after clashed then are ends above one_more index =
        let others = elsewhere_vacant old p.key (kept ps) are.there vacant in
        let below = places_all old (λ q. q.number < p.number) (λ r. r.number < p.number) (λ q w h. h) (kept ps) are.there above in
        let whole = kept_push ps p live in
        record {
          rise = so_push (λ p q. p.number < q.number) ps p (above_marks p.number ps are.rise ends below) are.rise;
          there = subst (AllByRecursion (HasRow new)) (sym whole)
              (all_append (HasRow new) (kept ps) (p ∷ []) (there_elsewhere old new p.key (Some v) (kept ps) updates others are.there) (subst IsSome (sym updates.changed) refl, tt));
          apart = subst KeysDiffer (sym whole) (so_push (λ p q. p.key ≢ q.key) (kept ps) p others are.apart);
          all = omega (arith, one_more, are.all, ap length whole, length-append (kept ps) (p ∷ []));
          indexed = λ clean. subst (IsIndexed after) (sym whole) (index clean);
        }

  -- which rows have a hash and pass a test

  pub named_yes : (hash : ℕ) (test : V → Bool) (p : Place) (v : V) → p.hash ≡ hash → test v ≡ true → is_named hash test (row_with p v) ≡ true
  named_yes hash test p v same passes =
      (λ i. true_from_ne_false _ (λ no. eqb-false p.hash hash no same) i && passes i)

  pub named_other : (hash : ℕ) (test : V → Bool) (p : Place) (v : V) → p.hash ≢ hash → is_named hash test (row_with p v) ≡ false
  named_other hash test p v differs = ap (λ b. b && test v) (false_from_ne_true _ (λ same. differs (eqb-true p.hash hash same)))

  pub named_no : (hash : ℕ) (test : V → Bool) (p : Place) (v : V) → test v ≡ false → is_named hash test (row_with p v) ≡ false
  named_no hash test p v fails = ap (λ b. (p.hash == hash) && b) fails ∙ and_no (p.hash == hash)

  pub others_named : (hash : ℕ) (test : V → Bool) (slab : Slab V) (ps : List Place) → AllByRecursion (λ p. p.hash ≢ hash) ps → AllByRecursion (λ r. is_named hash test r ≡ false) (rows_of slab ps)
  others_named hash test slab ps h = rows_all slab (λ p. p.hash ≢ hash) (λ r. is_named hash test r ≡ false) (λ p v differs. named_other hash test p v differs) ps h

  -- the rows that are left in a walk
  module _ (slab : Slab V) (hash : ℕ) (test : V → Bool) (ps : List Place) (i : ℕ) (d : Place) (below : i < length ps) where
    abbrev Left : ℕ → Option (Row V)
    Left n = find (is_named hash test) (rows_at slab (drop n ps))

    left : drop i ps ≡ get_or ps i d ∷ drop (i + 1) ps
    left = drop_more ps i d below

    pub walk_mark : (get_or ps i d).gone ≡ true → Left (i + 1) ≡ Left i
    walk_mark gone = sym (ap (λ qs. find (is_named hash test) (rows_of slab qs)) (ap kept left ∙ kept_mark (get_or ps i d) (drop (i + 1) ps) gone))

    module _ (live : (get_or ps i d).gone ≡ false) where
      first : kept (drop i ps) ≡ get_or ps i d ∷ kept (drop (i + 1) ps)
      first = ap kept left ∙ kept_first (get_or ps i d) (drop (i + 1) ps) live

      pub walk_none : get slab (get_or ps i d).key ≡ None → Left (i + 1) ≡ Left i
      walk_none none = sym (ap (λ qs. find (is_named hash test) (rows_of slab qs)) first ∙ past)
        where
          past : find (is_named hash test) (rows_of slab (get_or ps i d ∷ kept (drop (i + 1) ps))) ≡ Left (i + 1)
          past = rw none refl

      pub walk_row : (v : V) → get slab (get_or ps i d).key ≡ Some v
          → Left i ≡ cond (is_named hash test (row_with (get_or ps i d) v)) (Some (row_with (get_or ps i d) v)) (Left (i + 1))
      walk_row v is = ap (find (is_named hash test)) (ap (rows_of slab) first ∙ rows_first slab (get_or ps i d) (kept (drop (i + 1) ps)) v is)

      pub walk_past : (v : V) → get slab (get_or ps i d).key ≡ Some v → is_named hash test (row_with (get_or ps i d) v) ≡ false → Left (i + 1) ≡ Left i
      walk_past v is fails = sym (walk_row v is ∙ ap (λ b. cond b (Some (row_with (get_or ps i d) v)) (Left (i + 1))) fails)

      pub walk_found : (v : V) → get slab (get_or ps i d).key ≡ Some v → is_named hash test (row_with (get_or ps i d) v) ≡ true → Left i ≡ Some (row_with (get_or ps i d) v)
      walk_found v is passes = walk_row v is ∙ ap (λ b. cond b (Some (row_with (get_or ps i d) v)) (Left (i + 1))) passes

      -- a row with another hash, which may not be looked at
      pub walk_other : (get_or ps i d).hash ≢ hash → Left (i + 1) ≡ Left i
      walk_other differs = by (get slab (get_or ps i d).key) refl
        where
          by : (found : Option V) → get slab (get_or ps i d).key ≡ found → Left (i + 1) ≡ Left i
          by None is = walk_none is
          by (Some v) is = walk_past v is (named_other hash test (get_or ps i d) v differs)

  pub none_gone : (slab : Slab V) (number : ℕ) (ps : List Place) → IsPlaceOf number ps None → without (is_numbered number) (rows_at slab ps) ≡ rows_at slab ps
  none_gone slab number ps others = drop_none (is_numbered number) (rows_at slab ps) (rows_others slab number (kept ps) others)

  module _ {S : Type 0} where
    -- what holds where no two rows had one hash holds but for the index in any case
    pub as_clashed : (slab : Slab V) (ps : List Place) (index : IndexMap ℕ ℕ S) (clashed : Bool) → AreKept slab ps index clashed → AreKept slab ps index true
    as_clashed slab ps index clashed are = record { rise = are.rise; there = are.there; apart = are.apart; all = are.all; indexed = λ no_clash. absurd (not_false no_clash) }
      where
        not_false : true ≡ false → ⊥
        not_false is = cc

    -- after marks were dropped, and the index may have begun anew
    pub kept_dropped : (slab : Slab V) (before after : IndexMap ℕ ℕ S) (clashed then : Bool) (ps qs : List Place) → AreKept slab ps before clashed → kept qs ≡ kept ps → NumbersRise qs
        → ((clashed ≡ false → IsIndexed before (kept ps)) → then ≡ false → IsIndexed after (kept ps)) → AreKept slab qs after then
    kept_dropped slab before after clashed then ps qs are same rise index = record {
      rise = rise;
      there = subst (AllByRecursion (HasRow slab)) (sym same) are.there;
      apart = subst KeysDiffer (sym same) are.apart;
      all = are.all ∙ ap length (sym same);
      indexed = λ clean. subst (IsIndexed after) (sym same) (index are.indexed clean);
    }

  -- Without the row at a place, which passes a test, the rows that fail the test are those that there were.
  pub less_passing : (slab : Slab V) (ps : List Place) (at : ℕ) (p : Place) (v : V) (test : Row V → Bool) → HasRowAt at ps → p ≡ get_or ps at p → get slab p.key ≡ Some v → test (row_with p v) ≡ true
      → NumbersRise ps → without test (without (is_numbered (number_at at ps)) (rows_at slab ps)) ≡ without test (rows_at slab ps)
  less_passing slab ps at p v test there is has passes rise =
      let here = subst (Cut ps at) (sym is) (cut ps at p there.0 (there.1 p)) in
      let numbered : number_at at ps ≡ p.number = number_is ps at p there.0 ∙ ap (λ (p : Place). p.number) (sym is) in
      let front = rows_of slab here.front in
      let back = rows_of slab here.back in
      (λ i. without test (without (is_numbered (numbered i)) (rows_of slab (here.whole i))))
      ∙ ap (without test) (without_cut here.front p here.back (subst NumbersRise here.whole (rise_kept ps rise)) slab v has ∙ rows_append slab here.front here.back)
      ∙ filter-append (λ r. not (test r)) front back
      ∙ sym (
      ap (without test) (ap (rows_of slab) here.whole ∙ rows_cut slab here.front p here.back v has)
      ∙ filter-append (λ r. not (test r)) front (row_with p v ∷ back)
      ∙ ap (λ b. without test front ++ cond (not b) (row_with p v ∷ without test back) (without test back)) passes
      )

  -- the rows at the places before it stay
  pub before_stay : (old new : Slab V) (ps : List Place) (at : ℕ) (p : Place) → HasRowAt at ps → p ≡ get_or ps at p → KeysDiffer (kept ps) → Updates old new p.key None
      → rows_of new (kept (take at ps)) ≡ rows_of old (kept (take at ps))
  before_stay old new ps at p there is apart updates =
      let here = subst (Cut ps at) (sym is) (cut ps at p there.0 (there.1 p)) in
      let others = keys_before here.front p here.back (subst KeysDiffer here.whole apart) in
      rows_elsewhere old new p.key None (kept (take at ps)) updates (subst (AllByRecursion (λ q. q.key ≢ p.key)) here.before others)

  -- what a place has that has a row which passes a test
  pub record Passing (test : Row V → Bool) (slab : Slab V) (p : Place) : Type 0 where
    pub live : p.gone ≡ false
    pub value : V
    pub has : get slab p.key ≡ Some value
    pub passes : test (row_with p value) ≡ true

  pub passing : (test : Row V → Bool) (slab : Slab V) (p : Place) → has_row test slab p ≡ true → Passing test slab p
  passing test slab p is =
      let both = and_yes (not p.gone) (option_map_or test (row_of slab p) false) is in
      by (live_not p both.0) (get slab p.key) refl both.1
    where
      not_true : false ≡ true → ⊥
      not_true no_row = cc

      by : p.gone ≡ false → (found : Option V) → get slab p.key ≡ found → option_map_or test (option_map (row_with p) found) false ≡ true → Passing test slab p
      by live None has passes = absurd (not_true passes)
      by live (Some v) has passes = record { live = live; value = v; has = has; passes = passes }

  -- and where it has none, no row there passes
  pub failing : (test : Row V → Bool) (slab : Slab V) (p : Place) → has_row test slab p ≡ false → AllByRecursion (λ r. test r ≡ false) (rows_at slab (p ∷ []))
  failing test slab p is = by p.gone refl (row_of slab p) refl is
    where
      alone : (row : Option (Row V)) → option_map_or test row false ≡ false → AllByRecursion (λ r. test r ≡ false) (cons_option row [])
      alone None fails = tt
      alone (Some r) fails = (fails, tt)

      by : (b : Bool) → p.gone ≡ b → (row : Option (Row V)) → row_of slab p ≡ row → (not b && option_map_or test (row_of slab p) false) ≡ false → AllByRecursion (λ r. test r ≡ false) (rows_at slab (p ∷ []))
      by true gone row there fails = subst (λ qs. AllByRecursion (λ r. test r ≡ false) (rows_of slab qs)) (sym (kept_mark p [] gone)) tt
      by false live row there fails = subst (λ qs. AllByRecursion (λ r. test r ≡ false) (rows_of slab qs)) (sym (kept_first p [] live)) (alone (row_of slab p) fails)

  -- the only row that may have a hash, by the number to which the index leads
  pub record Sole (rows : List (Row V)) (hash number : ℕ) : Type 0 where
    pub row : Row V
    pub numbered : row.number ≡ number
    pub found : find (is_numbered number) rows ≡ Some row
    pub named : (test : V → Bool) → find (is_named hash test) rows ≡ cond (test row.value) (Some row) None

  pub sole : {S : Type 0} (slab : Slab V) (ps : List Place) (index : IndexMap ℕ ℕ S) (hash number : ℕ) → AreKept slab ps index false → indexes.get nat_eq index hash ≡ Some number
      → Sole (rows_at slab ps) hash number
  sole slab ps index hash number are leads =
      let indexed = are.indexed refl in
      let here = led (kept ps) hash number (indexed.own hash number leads) in
      let p = here.place in
      let rise : NumbersRise (here.front ++ p ∷ here.back) = subst NumbersRise here.whole (rise_kept ps are.rise) in
      let whole : IsIndexed index (here.front ++ p ∷ here.back) = subst (IsIndexed index) here.whole indexed in
      let v = value_at slab p (all_back (HasRow slab) here.front (p ∷ here.back) (subst (AllByRecursion (HasRow slab)) here.whole are.there)).0 in
      let differ : List Place → Type 0 = λ qs. AllByRecursion (λ q. q.hash ≢ hash) qs in
      let before : differ here.front = subst (λ h. AllByRecursion (λ q. q.hash ≢ h) here.front) here.hashed (hashes_before index here.front p here.back rise whole) in
      let behind : differ here.back = subst (λ h. AllByRecursion (λ q. q.hash ≢ h) here.back) here.hashed (hashes_behind index here.front p here.back rise whole) in
      record {
        row = row_with p v.0;
        numbered = here.numbered;
        found = (λ i. find (is_numbered (sym here.numbered i)) (rows_of slab (here.whole i))) ∙ find_cut here.front p here.back rise slab v.0 v.1;
        named = λ test. ap (find (is_named hash test)) (ap (rows_of slab) here.whole ∙ rows_cut slab here.front p here.back v.0 v.1)
            ∙ find_past (is_named hash test) (rows_of slab here.front) (row_with p v.0 ∷ rows_of slab here.back) (others_named hash test slab here.front before)
            ∙ by here.place v.0 here.hashed (rows_of slab here.back) test (find_none (is_named hash test) (rows_of slab here.back) (others_named hash test slab here.back behind)) (test v.0) refl;
      }
    where
      by : (p : Place) (v : V) → p.hash ≡ hash → (back : List (Row V)) (test : V → Bool) → find (is_named hash test) back ≡ None → (b : Bool) → test v ≡ b
          → find (is_named hash test) (row_with p v ∷ back) ≡ cond b (Some (row_with p v)) None
      by p v same back test none true passes = ap (λ b. cond b (Some (row_with p v)) (find (is_named hash test) back)) (named_yes hash test p v same passes)
      by p v same back test none false fails = ap (λ b. cond b (Some (row_with p v)) (find (is_named hash test) back)) (named_no hash test p v fails) ∙ none

  pub none_named : {S : Type 0} (slab : Slab V) (ps : List Place) (index : IndexMap ℕ ℕ S) (hash : ℕ) (test : V → Bool) → AreKept slab ps index false → indexes.get nat_eq index hash ≡ None
      → find (is_named hash test) (rows_at slab ps) ≡ None
  none_named slab ps index hash test are none = find_none (is_named hash test) (rows_at slab ps) (others_named hash test slab (kept ps) (none_led index (kept ps) hash (are.indexed refl) none))

  module _ (rows : List (Row V)) (hash number : ℕ) (s : Sole rows hash number) where
    pub sole_there : None ≡ value_in (find (is_numbered number) rows) → ⊥
    sole_there none = no_value s.row.value (none ∙ ap value_in s.found)
      where
        no_value : (v : V) → None ≡ Some v → ⊥
        no_value v is = cc

    sole_value : (v : V) → Some v ≡ value_in (find (is_numbered number) rows) → s.row.value ≡ v
    sole_value v is = sym (same_value v s.row.value (is ∙ ap value_in s.found))

    pub sole_passes : (test : V → Bool) (v : V) → Some v ≡ value_in (find (is_numbered number) rows) → test v ≡ true → Some (number, v) ≡ pair_in (find (is_named hash test) rows)
    sole_passes test v is passes =
        let same = sole_value v is in
        sym (ap pair_in (s.named test ∙ ap (λ b. cond b (Some s.row) None) (ap test same ∙ passes)) ∙ (λ i. Some (s.numbered i, same i)))

    pub sole_fails : (test : V → Bool) (v : V) → Some v ≡ value_in (find (is_numbered number) rows) → test v ≡ false → None ≡ pair_in (find (is_named hash test) rows)
    sole_fails test v is fails = sym (ap pair_in (s.named test ∙ ap (λ b. cond b (Some s.row) None) (ap test (sole_value v is) ∙ fails)))
