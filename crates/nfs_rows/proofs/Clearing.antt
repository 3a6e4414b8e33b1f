-- The walk over the places that removes the rows of a client which pass a test.
use Rattle.std.proofs.Common.{◌≡◌, ℕ, suc, ◌+◌, ◌<◌, ◌≤◌, ◌++◌, ◌∷◌, [], Bool, false, true, None, List, length, get_or, take, ap, ◌∙◌, refl, sym, subst, arith}
use Rattle.std.specs.List.{AllByRecursion}
use Rattle.std.specs.Global.{Vec}
use Rattle.std.proofs.lemmas.List.{take_all}
use Rattle.std.proofs.lemmas.List.Elements.{filter-append}
use Rattle.slab.specs.Slab.{Slab, Updates}
use Rattle.indexmap.specs.IndexMap.{IndexMap}
use Rattle.nfs_rows.specs.declared.place.Place.{Place}
use Rattle.nfs_rows.specs.Rows.{Row, is_numbered, without}
use Rattle.nfs_rows.specs.Places.{AreKept, HasRoom, HasRowAt, KeysDiffer, NumbersRise, has_row, kept, key_at, marked, number_at, rows_at, rows_of}
use Rattle.nfs_rows.proofs.Each.{all_append, any_default, drop_none}
use Rattle.nfs_rows.proofs.Marks.{key_is, kept_pop, take_marked, take_next}
use Rattle.nfs_rows.proofs.Shown.{before_stay, failing, less_passing, passing, rows_append}

-- The fields stand as in a value, but for the end of the places; the room and the number of places are as they were.
pub record Stands {V S : Type 0} (room end : ℕ) (slab : Slab V) (places : Vec Place) (index : IndexMap ℕ ℕ S) (clashed : Bool) (promised : ℕ) : Type 0 where
  pub are : AreKept slab places.items index clashed
  pub has : HasRoom slab places index promised
  pub same_room : promised ≡ room
  pub long : length places.items ≡ end

kept_append : (ps qs : List Place) → kept (ps ++ qs) ≡ kept ps ++ kept qs
kept_append ps qs = filter-append _ ps qs

module _ {V : Type 0} where
  -- The rows that fail the test are those that there were, and no row at the places before this one passes it.
  pub record Clears (test : Row V → Bool) (rows : List (Row V)) (at : ℕ) (slab : Slab V) (places : List Place) : Type 0 where
    pub others : without test (rows_at slab places) ≡ without test rows
    pub passed : AllByRecursion (λ r. test r ≡ false) (rows_at slab (take at places))

  module _ (test : Row V → Bool) (rows : List (Row V)) (at : ℕ) (slab : Slab V) (ps : List Place) (clears : Clears test rows at slab ps) (p : Place) (is : p ≡ get_or ps at p)
      (below : at < length ps) where
    -- where no row at the place passes, one more place is passed
    pub clears_other : has_row test slab p ≡ false → Clears test rows (at + 1) slab ps
    clears_other none = record {
      others = clears.others;
      passed = subst (λ n. AllByRecursion (λ r. test r ≡ false) (rows_at slab (take n ps))) (next at)
          (subst (λ qs. AllByRecursion (λ r. test r ≡ false) (rows_of slab qs)) (sym whole)
          (subst (AllByRecursion (λ r. test r ≡ false)) (sym (rows_append slab (kept (take at ps)) (kept (p ∷ []))))
          (all_append (λ r. test r ≡ false) (rows_at slab (take at ps)) (rows_at slab (p ∷ [])) clears.passed (failing test slab p none))));
    }
      where
        next : (at : ℕ) → suc at ≡ at + 1
        next at = omega arith

        whole : kept (take (suc at) ps) ≡ kept (take at ps) ++ kept (p ∷ [])
        whole = ap kept (take_next ps at p below ∙ ap (λ (q : Place). take at ps ++ q ∷ []) (sym is)) ∙ kept_append (take at ps) (p ∷ [])

    pub row_there : has_row test slab p ≡ true → HasRowAt at ps
    row_there some = (
      below,
      λ d. subst (λ (q : Place). q.gone ≡ false) (is ∙ any_default ps at p d below) (passing test slab p some).live,
    )

    -- where one passes, it is gone
    pub clears_taken : has_row test slab p ≡ true → NumbersRise ps → KeysDiffer (kept ps) → (new : Slab V) (left : List Place) → left ≡ marked at ps
        → Updates slab new (key_at at ps) None → rows_at new left ≡ without (is_numbered (number_at at ps)) (rows_at slab ps) → Clears test rows (at + 1) new left
    clears_taken some rise apart new left items updates taken =
        let there = row_there some in
        let row = passing test slab p some in
        let update : Updates slab new p.key None = subst (λ key. Updates slab new key None) (key_is ps at p below ∙ ap (λ (q : Place). q.key) (sym is)) updates in
        record {
          others = ap (without test) taken ∙ less_passing slab ps at p row.value test there is row.has row.passes rise ∙ clears.others;
          passed = subst (λ qs. AllByRecursion (λ r. test r ≡ false) (rows_at new (take (at + 1) qs))) (sym items)
              (subst (λ n. AllByRecursion (λ r. test r ≡ false) (rows_at new (take n (marked at ps)))) (next at)
              (subst (λ qs. AllByRecursion (λ r. test r ≡ false) (rows_of new qs)) (sym whole)
              (subst (AllByRecursion (λ r. test r ≡ false)) (sym (before_stay slab new ps at p there is apart update)) clears.passed)));
        }
      where
        next : (at : ℕ) → suc at ≡ at + 1
        next at = omega arith

        whole : kept (take (suc at) (marked at ps)) ≡ kept (take at ps)
        whole = ap kept (take_marked ps at p below) ∙ kept_pop (take at ps) (record (get_or ps at p) { gone = true }) refl

  -- in the end the rows are those that fail the test
  pub cleared : (test : Row V → Bool) (rows : List (Row V)) (at : ℕ) (slab : Slab V) (ps : List Place) → Clears test rows at slab ps → length ps ≤ at → rows_at slab ps ≡ without test rows
  cleared test rows at slab ps clears all =
      sym (drop_none test (rows_at slab ps) (subst (λ qs. AllByRecursion (λ r. test r ≡ false) (rows_at slab qs)) (take_all at ps all) clears.passed)) ∙ clears.others
