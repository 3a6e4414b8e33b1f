-- Where a delegation stands among those in order, by halving.
use Rattle.std.proofs.Common.{◌≡◌, ℕ, zero, suc, ◌<◌, ◌≤◌, Bool, true, false, not, cond, List, [], ◌∷◌, length, find, get_or, remove, Some, None, refl, sym, ap, ◌∙◌, arith}
use Rattle.std.specs.Borrow.{Bor}
use Rattle.std.specs.Option.{option_copied}
use Rattle.std.specs.Prelude.{IfSome, Option, is_some, nat_le, nat_lt, slice_get}
use Rattle.std.specs.List.Sorted.{IsNonDecreasingBy, IsPartitionPoint}
use Rattle.std.proofs.lemmas.Bool.{eqb-true, leb-true, leb-false, ltb-true, ltb-false, false_from_ne_true, true_from_ne_false}
use Rattle.nfs_rows.specs.Rows.{StandSo}
use Rattle.nfs_rows.proofs.Each.{drop_none, so_at}
use Rattle.nfs_share.specs.Delegations.{StandInOrder, is_delegation_numbered, without_lent}
use Rattle.nfs_share.specs.declared.delegation.Delegation.{Delegation}
use Rattle.nfs_share.proofs.AtMostOne.{all_found, others_fail}
use Rattle.nfs_share.proofs.LentTables.{one_lent}

abbrev Before : Delegation → Delegation → Type 0
Before d e = d.number < e.number

stand_so : (ds : List Delegation) → StandInOrder ds → StandSo Before ds
stand_so [] h = tt
stand_so (d ∷ ds) h = (h.0, stand_so ds h.1)

pub numbers_rise : (ds : List Delegation) → StandInOrder ds → IsNonDecreasingBy (λ d. d.number) ds
numbers_rise ds h i j d more below = by (nat_lt i j) refl
  where
    same_place : i ≡ j → (get_or ds i d).number ≤ (get_or ds j d).number
    same_place same = omega (arith, ap (λ k. (get_or ds k d).number) same)

    by : (b : Bool) → nat_lt i j ≡ b → (get_or ds i d).number ≤ (get_or ds j d).number
    by true less = omega (arith, so_at Before ds i j d (stand_so ds h) (ltb-true i j less) below)
    by false least = same_place (omega (arith, more, ltb-false i j least))

abbrev pub IsPoint : ℕ → List Delegation → ℕ → Type 0
IsPoint number ds at = IsPartitionPoint (λ d. nat_lt d.number number ≡ true) (λ d. nat_lt d.number number ≡ false) ds at

-- the one there is the first that has no lower number
pub at_point : (number : ℕ) (ds : List Delegation) (at : ℕ) → at ≤ length ds → IsPoint number ds at → slice_get ds at ≡ find (λ d. nat_le number d.number) ds
at_point number [] at bound point = refl
at_point number (d ∷ ds) zero bound point =
    sym (ap (λ b. cond b (Some d) (find (λ e. nat_le number e.number) ds))
    (true_from_ne_false (nat_le number d.number) (λ less. omega (arith, leb-false number d.number less, ltb-false d.number number (point.1 0 d (omega arith) (omega arith))))))
at_point number (d ∷ ds) (suc at) bound point =
    at_point number ds at (omega (arith, bound)) (
      λ k e low high. point.0 (suc k) e (omega arith) (omega (arith, high)),
      λ k e low high. point.1 (suc k) e (omega (arith, low)) (omega (arith, high)),
    )
    ∙ sym (ap (λ b. cond b (Some d) (find (λ e. nat_le number e.number) ds))
    (false_from_ne_true (nat_le number d.number) (λ more. omega (arith, leb-true number d.number more, ltb-true d.number number (point.0 0 d (omega arith) (omega arith))))))

some_there : (ds : List Delegation) (at : ℕ) (d : Delegation) → at < length ds → d ≡ get_or ds at d → Some d ≡ slice_get ds at
some_there [] at d below is = absurd (omega (arith, below))
some_there (e ∷ ds) zero d below is = ap Some is
some_there (e ∷ ds) (suc at) d below is = some_there ds at d (omega (arith, below)) is

none_there : (ds : List Delegation) (at : ℕ) → length ds ≤ at → None ≡ slice_get ds at
none_there [] at above = refl
none_there (e ∷ ds) zero above = absurd (omega (arith, above))
none_there (e ∷ ds) (suc at) above = none_there ds at (omega (arith, above))

-- what is there at a place
pub looked_up : (found : Option (Bor Delegation)) (ds : List Delegation) (at : ℕ) → is_some found ≡ nat_lt at (length ds) → IfSome found (λ x. x.now ≡ get_or ds at x.now) → option_copied found ≡ slice_get ds at
looked_up None ds at there is = none_there ds at (ltb-false at (length ds) (sym there))
looked_up (Some d) ds at there is = some_there ds at d.now (ltb-true at (length ds) (sym there)) is

-- a delegation that is in order is removed at its place
pub removed_at : (number : ℕ) (ds : List Delegation) (at : ℕ) (d : Delegation) → StandInOrder ds → at ≤ length ds → IsPoint number ds at → Some d ≡ find (is_delegation_numbered number) ds
    → (at < length ds) × (remove ds at ≡ without_lent (is_delegation_numbered number) ds)
removed_at number [] at d order bound point found = absurd (cc)
removed_at number (e ∷ ds) zero d order bound point found = by (is_delegation_numbered number e) refl found
  where
    from : number ≤ e.number
    from = ltb-false e.number number (point.1 0 e (omega arith) (omega arith))

    by : (b : Bool) → is_delegation_numbered number e ≡ b → Some d ≡ cond b (Some e) (find (is_delegation_numbered number) ds)
        → (0 < length (e ∷ ds)) × (remove (e ∷ ds) 0 ≡ cond (not b) (e ∷ without_lent (is_delegation_numbered number) ds) (without_lent (is_delegation_numbered number) ds))
    by true is here = (omega arith, sym (drop_none (is_delegation_numbered number) ds (others_fail (is_delegation_numbered number) e ds (one_lent number (e ∷ ds) order).0 is)))
    by false not_it there =
        let later = all_found (λ f. e.number < f.number) (is_delegation_numbered number) ds d order.0 there in
        absurd (omega (arith, from, later.0, eqb-true d.number number later.1))
removed_at number (e ∷ ds) (suc at) d order bound point found =
    by (is_delegation_numbered number e) refl found
    (λ there. removed_at number ds at d order.1 (omega (arith, bound)) (
      (λ k f low high. point.0 (suc k) f (omega arith) (omega (arith, high))),
      (λ k f low high. point.1 (suc k) f (omega (arith, low)) (omega (arith, high))),
    ) there)
  where
    lower : e.number < number
    lower = ltb-true e.number number (point.0 0 e (omega arith) (omega arith))

    by : (b : Bool) → is_delegation_numbered number e ≡ b → Some d ≡ cond b (Some e) (find (is_delegation_numbered number) ds)
        → (Some d ≡ find (is_delegation_numbered number) ds → (at < length ds) × (remove ds at ≡ without_lent (is_delegation_numbered number) ds))
        → (suc at < length (e ∷ ds)) × (remove (e ∷ ds) (suc at) ≡ cond (not b) (e ∷ without_lent (is_delegation_numbered number) ds) (without_lent (is_delegation_numbered number) ds))
    by true is here rest = absurd (omega (arith, lower, eqb-true e.number number is))
    by false not_it there rest = (omega (arith, (rest there).0), ap (λ fs. e ∷ fs) (rest there).1)
