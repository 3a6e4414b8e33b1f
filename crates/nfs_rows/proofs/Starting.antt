-- The places and the rows whose numbers aren't below one.
use Rattle.std.proofs.Common.{◌≡◌, ℕ, zero, suc, ◌<◌, ◌≤◌, Bool, true, false, not, cond, List, [], ◌∷◌, length, drop, get_or, filter, Option, Some, None, refl, sym, ap, ◌∙◌, arith}
use Rattle.std.specs.Prelude.{nat_le}
use Rattle.std.proofs.lemmas.Bool.{le-leb}
use Rattle.slab.specs.Slab.{Slab, get}
use Rattle.nfs_rows.specs.Rows.{is_from}
use Rattle.nfs_rows.specs.Places.{is_from as is_place_from, kept, rows_at, rows_of}
use Rattle.nfs_rows.specs.declared.place.Place.{Place}
use Rattle.nfs_rows.proofs.Each.{all_from_index, filter_all}
use Rattle.nfs_rows.proofs.Marks.{IsPoint, below_point, from_point}

module _ {X : Type 0} where
  -- where a test fails up to a place, and passes from there on, what passes is behind the place
  passes_behind : (test : X → Bool) (xs : List X) (at : ℕ) → at ≤ length xs → ((k : ℕ) (d : X) → k < at → test (get_or xs k d) ≡ false) → ((k : ℕ) (d : X) → at ≤ k → k < length xs → test (get_or xs k d) ≡ true)
      → drop at xs ≡ filter test xs
  passes_behind test [] zero within before behind = refl
  passes_behind test [] (suc at) within before behind = absurd (omega (arith, within))
  passes_behind test (x ∷ xs) zero within before behind = sym (filter_all test (x ∷ xs) (all_from_index (λ y. test y ≡ true) (x ∷ xs) (λ k d below. behind k d (omega arith) below)))
  passes_behind test (x ∷ xs) (suc at) within before behind =
      passes_behind test xs at (omega (arith, within)) (λ k d below. before (suc k) d (omega (arith, below))) (λ k d from below. behind (suc k) d (omega (arith, from)) (omega (arith, below)))
      ∙ sym (ap (λ b. cond b (x ∷ filter test xs) (filter test xs)) (before 0 x (omega arith)))

  -- two tests, one after the other
  both_tests : (p q : X → Bool) (xs : List X) → filter p (filter q xs) ≡ filter q (filter p xs)
  both_tests p q [] = refl
  both_tests p q (x ∷ xs) = by (p x) refl (q x) refl (both_tests p q xs)
    where
      by : (b : Bool) → p x ≡ b → (c : Bool) → q x ≡ c → filter p (filter q xs) ≡ filter q (filter p xs) → filter p (filter q (x ∷ xs)) ≡ filter q (filter p (x ∷ xs))
      by true is true is_too rest = grind (arith, is, is_too, rest)
      by true is false is_too rest = grind (arith, is, is_too, rest)
      by false is true is_too rest = grind (arith, is, is_too, rest)
      by false is false is_too rest = grind (arith, is, is_too, rest)

not_from : (number n : ℕ) → n < number → nat_le number n ≡ false
not_from number n below = grind (arith, below)

-- the places behind the point are those whose numbers aren't below
pub places_behind : (number : ℕ) (ps : List Place) (at : ℕ) → at ≤ length ps → IsPoint number ps at → drop at ps ≡ filter (is_place_from number) ps
places_behind number ps at within point =
    passes_behind (is_place_from number) ps at within (λ k d below. not_from number (get_or ps k d).number (below_point number ps at point k d below))
    (λ k d from below. le-leb number (get_or ps k d).number (from_point number ps at point k d from below))

pub kept_from : (number : ℕ) (ps : List Place) → kept (filter (is_place_from number) ps) ≡ filter (is_place_from number) (kept ps)
kept_from number ps = both_tests (λ p. not p.gone) (is_place_from number) ps

module _ {V : Type 0} where
  rows_of_from : (number : ℕ) (slab : Slab V) (ps : List Place) → rows_of slab (filter (is_place_from number) ps) ≡ filter (is_from number) (rows_of slab ps)
  rows_of_from number slab [] = refl
  rows_of_from number slab (p ∷ ps) = by (nat_le number p.number) refl (get slab p.key) refl (rows_of_from number slab ps)
    where
      by : (b : Bool) → nat_le number p.number ≡ b → (v : Option V) → get slab p.key ≡ v → rows_of slab (filter (is_place_from number) ps) ≡ filter (is_from number) (rows_of slab ps)
          → rows_of slab (filter (is_place_from number) (p ∷ ps)) ≡ filter (is_from number) (rows_of slab (p ∷ ps))
      by true is None there rest = grind (arith, is, there, rest)
      by true is (Some v) there rest = grind (arith, is, there, rest)
      by false is None there rest = grind (arith, is, there, rest)
      by false is (Some v) there rest = grind (arith, is, there, rest)

  -- the rows at the places that aren't below
  pub rows_from : (number : ℕ) (slab : Slab V) (ps : List Place) → rows_at slab (filter (is_place_from number) ps) ≡ filter (is_from number) (rows_at slab ps)
  rows_from number slab ps = ap (rows_of slab) (kept_from number ps) ∙ rows_of_from number slab (kept ps)
