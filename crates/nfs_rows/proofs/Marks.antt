-- Places in the order of their numbers, of which some are marks.
use Rattle.std.proofs.Common.{◌≡◌, ◌≢◌, ℕ, zero, suc, ◌-◌, ◌<◌, ◌≤◌, Some, set, take, slice_get, Bool, true, false, not, cond, List, [], ◌∷◌, ◌++◌, length, get_or, inl, inr, refl, sym, ap, ◌∙◌, subst, arith}
use Rattle.std.specs.Prelude.{nat_lt}
use Rattle.std.specs.List.{AllByRecursion}
use Rattle.std.specs.List.Sorted.{IsNonDecreasingBy, IsPartitionPoint}
use Rattle.std.proofs.lemmas.Bool.{cases_lt}
use Rattle.std.proofs.lemmas.List.Elements.{filter-append}
use Rattle.nfs_rows.specs.declared.place.Place.{Place}
use Rattle.nfs_rows.specs.Places.{EndsKept, NumbersRise, kept, key_at, marked, number_at}
use Rattle.nfs_rows.proofs.Each.{filter_all, passes_filter, so_at, so_filter}

abbrev Below : Place → Place → Type 0
Below p q = p.number < q.number

-- what is found by halving

pub non_decreasing : (ps : List Place) → NumbersRise ps → IsNonDecreasingBy (λ p. p.number) ps
non_decreasing ps rise i j d more below =
    elim (cases_lt i j) [
      | inl less ↦ omega (arith, so_at Below ps i j d rise less below)
      | inr same ↦ omega (arith, ap (λ k. (get_or ps k d).number) (one i j more same))
    ]
  where
    one : (i j : ℕ) → i ≤ j → j ≤ i → i ≡ j
    one i j a b = omega (arith, a, b)

abbrev pub IsPoint : ℕ → List Place → ℕ → Type 0
IsPoint number ps at = IsPartitionPoint (λ p. nat_lt p.number number ≡ true) (λ p. nat_lt p.number number ≡ false) ps at

pub below_point : (number : ℕ) (ps : List Place) (at : ℕ) → IsPoint number ps at → (k : ℕ) (d : Place) → k < at → (get_or ps k d).number < number
below_point number ps at point k d below = grind (arith, point.0 k d (omega arith) below)

pub from_point : (number : ℕ) (ps : List Place) (at : ℕ) → IsPoint number ps at → (k : ℕ) (d : Place) → at ≤ k → k < length ps → number ≤ (get_or ps k d).number
from_point number ps at point k d above below = grind (arith, point.1 k d above below)

-- no other place than the one at the point has the number
pub other_at_point : (number : ℕ) (ps : List Place) (at : ℕ) → NumbersRise ps → IsPoint number ps at
    → (k : ℕ) (d : Place) → k < length ps → (get_or ps k d).number ≡ number → k ≡ at
other_at_point number ps at rise point k d below same =
    elim (cases_lt k at) [
      | inl less ↦ omega (arith, below_point number ps at point k d less, same)
      | inr more ↦
          elim (cases_lt at k) [
            | inl after ↦ omega (arith, from_point number ps at point at d (omega arith) (omega (arith, after, below)), so_at Below ps at k d rise after below, same)
            | inr least ↦ omega (arith, more, least)
          ]
    ]

-- marks

pub kept_first : (p : Place) (ps : List Place) → p.gone ≡ false → kept (p ∷ ps) ≡ p ∷ kept ps
kept_first p ps live = ap (λ b. cond (not b) (p ∷ kept ps) (kept ps)) live

pub kept_mark : (p : Place) (ps : List Place) → p.gone ≡ true → kept (p ∷ ps) ≡ kept ps
kept_mark p ps gone = ap (λ b. cond (not b) (p ∷ kept ps) (kept ps)) gone

pub rise_kept : (ps : List Place) → NumbersRise ps → NumbersRise (kept ps)
rise_kept ps rise = so_filter Below (λ p. not p.gone) ps rise

-- each place with the number is a mark
pub none_kept : (number : ℕ) (ps : List Place) → ((k : ℕ) (d : Place) → k < length ps → (get_or ps k d).gone ≡ false → (get_or ps k d).number ≢ number)
    → AllByRecursion (λ p. p.number ≢ number) (kept ps)
none_kept number [] h = tt
none_kept number (p ∷ ps) h = by p.gone refl (none_kept number ps (λ k d below live. h (suc k) d (omega (arith, below)) live))
  where
    by : (b : Bool) → p.gone ≡ b → AllByRecursion (λ p. p.number ≢ number) (kept ps) → AllByRecursion (λ p. p.number ≢ number) (cond (not b) (p ∷ kept ps) (kept ps))
    by true is rest = rest
    by false is rest = (h 0 p (omega arith) is, rest)

-- the places that are kept, cut at one of them, and with a mark in its place
pub record Cut (ps : List Place) (at : ℕ) (p : Place) : Type 0 where
  pub front : List Place
  pub back : List Place
  pub whole : kept ps ≡ front ++ p ∷ back
  pub less : kept (marked at ps) ≡ front ++ back
  pub before : front ≡ kept (take at ps)

pub cut : (ps : List Place) (at : ℕ) (d : Place) → at < length ps → (get_or ps at d).gone ≡ false → Cut ps at (get_or ps at d)
cut [] at d below live = absurd (omega (arith, below))
cut (p ∷ ps) zero d below live = record { front = []; back = kept ps; whole = kept_first p ps live; less = refl; before = refl }
cut (p ∷ ps) (suc at) d below live = by p.gone refl (cut ps at d (omega (arith, below)) live)
  where
    by : (b : Bool) → p.gone ≡ b → Cut ps at (get_or ps at d) → Cut (p ∷ ps) (suc at) (get_or ps at d)
    by true is rest = record { front = rest.front; back = rest.back; whole = kept_mark p ps is ∙ rest.whole; less = kept_mark p (marked at ps) is ∙ rest.less; before = rest.before ∙ sym (kept_mark p (take at ps) is) }
    by false is rest = record {
      front = p ∷ rest.front;
      back = rest.back;
      whole = kept_first p ps is ∙ ap (λ qs. p ∷ qs) rest.whole;
      less = kept_first p (marked at ps) is ∙ ap (λ qs. p ∷ qs) rest.less;
      before = ap (λ qs. p ∷ qs) rest.before ∙ sym (kept_first p (take at ps) is);
    }

pub rise_marked : (ps : List Place) (at : ℕ) → NumbersRise ps → NumbersRise (marked at ps)
rise_marked [] at h = tt
rise_marked (p ∷ ps) zero h = h
rise_marked (p ∷ ps) (suc at) h = (all_marked ps at h.0, rise_marked ps at h.1)
  where
    all_marked : (qs : List Place) (at : ℕ) → AllByRecursion (Below p) qs → AllByRecursion (Below p) (marked at qs)
    all_marked [] at h = tt
    all_marked (q ∷ qs) zero h = h
    all_marked (q ∷ qs) (suc at) h = (h.0, all_marked qs at h.1)

pub key_is : (ps : List Place) (at : ℕ) (d : Place) → at < length ps → key_at at ps ≡ (get_or ps at d).key
key_is [] at d below = absurd (omega (arith, below))
key_is (p ∷ ps) zero d below = refl
key_is (p ∷ ps) (suc at) d below = key_is ps at d (omega (arith, below))

pub number_is : (ps : List Place) (at : ℕ) (d : Place) → at < length ps → number_at at ps ≡ (get_or ps at d).number
number_is [] at d below = absurd (omega (arith, below))
number_is (p ∷ ps) zero d below = refl
number_is (p ∷ ps) (suc at) d below = number_is ps at d (omega (arith, below))

-- where marks are dropped

pub kept_kept : (ps : List Place) → kept (kept ps) ≡ kept ps
kept_kept ps = filter_all (λ p. not p.gone) (kept ps) (passes_filter (λ p. not p.gone) ps)

pub ends_all : (ps : List Place) → AllByRecursion (λ p. not p.gone ≡ true) ps → EndsKept ps
ends_all [] h = tt
ends_all (p ∷ []) h = by p.gone h.0
  where
    by : (b : Bool) → not b ≡ true → b ≡ false
    by true is = cc
    by false is = refl
ends_all (p ∷ q ∷ ps) h = ends_all (q ∷ ps) h.1

pub kept_pop : (ps : List Place) (p : Place) → p.gone ≡ true → kept (ps ++ p ∷ []) ≡ kept ps
kept_pop [] p gone = kept_mark p [] gone
kept_pop (q ∷ ps) p gone = ap (λ qs. cond (not q.gone) (q ∷ qs) qs) (kept_pop ps p gone)

pub kept_push : (ps : List Place) (p : Place) → p.gone ≡ false → kept (ps ++ p ∷ []) ≡ kept ps ++ p ∷ []
kept_push ps p live = filter-append (λ p. not p.gone) ps (p ∷ []) ∙ ap (λ qs. kept ps ++ qs) (kept_first p [] live)

pub ends_push : (ps : List Place) (p : Place) → p.gone ≡ false → EndsKept (ps ++ p ∷ [])
ends_push [] p live = live
ends_push (q ∷ []) p live = live
ends_push (q ∷ r ∷ ps) p live = ends_push (r ∷ ps) p live

-- What is above the places that are kept is above the marks, too, since the last place isn't a mark.
pub above_marks : (number : ℕ) (ps : List Place) → NumbersRise ps → EndsKept ps → AllByRecursion (λ p. p.number < number) (kept ps) → AllByRecursion (λ p. p.number < number) ps
above_marks number [] rise ends above = tt
above_marks number (p ∷ []) rise ends above = subst (AllByRecursion (λ p. p.number < number)) (kept_first p [] ends) above
above_marks number (p ∷ q ∷ ps) rise ends above =
    let rest = above_marks number (q ∷ ps) rise.1 ends (behind p.gone refl) in (
      omega (arith, rise.0.0, rest.0),
      rest,
    )
  where
    behind : (b : Bool) → p.gone ≡ b → AllByRecursion (λ p. p.number < number) (kept (q ∷ ps))
    behind true is = subst (AllByRecursion (λ p. p.number < number)) (kept_mark p (q ∷ ps) is) above
    behind false is = (subst (AllByRecursion (λ p. p.number < number)) (kept_first p (q ∷ ps) is) above).1

-- the last place

last_at : (ps : List Place) (k : ℕ) (p : Place) → suc k ≡ length ps → Some p ≡ slice_get ps k → ps ≡ take k ps ++ p ∷ []
last_at [] k p all is = absurd (omega (arith, all))
last_at (q ∷ []) zero p all is = ap (λ x. x ∷ []) (same_place q p (sym is))
  where
    same_place : (q p : Place) → Some q ≡ Some p → q ≡ p
    same_place q p is = cc
last_at (q ∷ r ∷ ps) zero p all is = absurd (omega (arith, all))
last_at (q ∷ ps) (suc k) p all is = ap (λ xs. q ∷ xs) (last_at ps k p (omega (arith, all)) is)

pub last_is : (ps : List Place) (p : Place) → Some p ≡ slice_get ps (length ps - 1) → ps ≡ take (length ps - 1) ps ++ p ∷ []
last_is [] p is = absurd (cc)
last_is (q ∷ ps) p is = last_at (q ∷ ps) (length (q ∷ ps) - 1) p (omega arith) is

pub ends_last : (ps : List Place) (p : Place) → EndsKept (ps ++ p ∷ []) → p.gone ≡ false
ends_last [] p ends = ends
ends_last (q ∷ []) p ends = ends
ends_last (q ∷ r ∷ ps) p ends = ends_last (r ∷ ps) p ends

pub set_marked : (ps : List Place) (at : ℕ) (d : Place) → at < length ps → set ps at (record (get_or ps at d) { gone = true }) ≡ marked at ps
set_marked [] at d below = absurd (omega (arith, below))
set_marked (p ∷ ps) zero d below = refl
set_marked (p ∷ ps) (suc at) d below = ap (λ qs. p ∷ qs) (set_marked ps at d (omega (arith, below)))

-- a default to read a place by
abbrev pub no_place : Place
no_place = record { number = 0; hash = 0; client = 0; key = 0; gone = true }

-- what stands at places after one got a mark

pub length_marked : (ps : List Place) (at : ℕ) → length (marked at ps) ≡ length ps
length_marked [] at = refl
length_marked (p ∷ ps) zero = refl
length_marked (p ∷ ps) (suc at) = ap suc (length_marked ps at)

pub take_marked : (ps : List Place) (at : ℕ) (d : Place) → at < length ps → take (suc at) (marked at ps) ≡ take at ps ++ record (get_or ps at d) { gone = true } ∷ []
take_marked [] at d below = absurd (omega (arith, below))
take_marked (p ∷ ps) zero d below = refl
take_marked (p ∷ ps) (suc at) d below = ap (λ qs. p ∷ qs) (take_marked ps at d (omega (arith, below)))

pub take_next : (ps : List Place) (at : ℕ) (d : Place) → at < length ps → take (suc at) ps ≡ take at ps ++ get_or ps at d ∷ []
take_next [] at d below = absurd (omega (arith, below))
take_next (p ∷ ps) zero d below = refl
take_next (p ∷ ps) (suc at) d below = ap (λ qs. p ∷ qs) (take_next ps at d (omega (arith, below)))

-- by a test that a place isn't gone

pub live_not : (p : Place) → not p.gone ≡ true → p.gone ≡ false
live_not p is = by p.gone is
  where
    by : (b : Bool) → not b ≡ true → b ≡ false
    by true is = cc
    by false is = refl

pub not_live : (p : Place) → not p.gone ≡ false → p.gone ≡ false → ⊥
not_live p is live = cc
