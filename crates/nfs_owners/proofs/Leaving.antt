-- Which states were closed, while the rows of some owners are passed one by one to be forgotten.
use Rattle.std.proofs.Common.{◌≡◌, ◌≢◌, ℕ, ◌<◌, ◌==◌, Bool, true, false, Some, None, Option, List, [], ◌∷◌, cond, find, refl, sym, ap, ◌∙◌, arith, inl, inr}
use Rattle.std.specs.Prelude.{◌⊎◌, ◌||◌, if◌then◌else◌, map, option_map}
use Rattle.std.specs.List.{AllByRecursion, list_any}
use Rattle.std.proofs.lemmas.Bool.{cases_eq, eqb-true, eqb-false, false_from_ne_true, true_from_ne_false}
use Rattle.nfs_rows.specs.Rows.{Row, StandInOrder, StandSo, is_numbered, pair_of, value_in, without}
use Rattle.nfs_rows.proofs.Each.{all_weaken}
use Rattle.nfs_owners.specs.Closers.{closed_at, closed_by, closed_of, with_at}
use Rattle.nfs_owners.specs.OwnerRows.{owners_in}
use Rattle.nfs_owners.specs.declared.owner.Owner.{Owner}
use Rattle.nfs_owners.proofs.Lists.{neither}
use Rattle.nfs_owners.proofs.Closing.{at_other, at_own, find_gone, find_left, find_without, rows_own}

-- where a pair is left, its row is as before
abbrev pub left : (Owner → Bool) → List (Row Owner) → List (ℕ × Owner) → ℕ → Option ℕ
left test rows ps m = if list_any (λ p. p.0 == m) ps then closed_at rows m else closed_at (without (λ r. test r.value) rows) m

abbrev pub ArePairs : List (Row Owner) → List (ℕ × Owner) → Type 0
ArePairs rows ps = AllByRecursion (λ p. value_in (find (is_numbered p.0) rows) ≡ Some p.1) ps × StandSo (λ p q. p.0 < q.0) ps

pub are_pairs : (rows : List (Row Owner)) → StandInOrder rows → ArePairs rows (map pair_of rows)
are_pairs rows order = (own rows (rows_own rows order), rise rows order)
  where
    own : (back : List (Row Owner)) → AllByRecursion (λ r. find (is_numbered r.number) rows ≡ Some r) back → AllByRecursion (λ p. value_in (find (is_numbered p.0) rows) ≡ Some p.1) (map pair_of back)
    own [] h = tt
    own (r ∷ back) h = (ap value_in h.0, own back h.1)

    above : (n : ℕ) (rows : List (Row Owner)) → AllByRecursion (λ s. n < s.number) rows → AllByRecursion (λ (p : ℕ × Owner). n < p.0) (map pair_of rows)
    above n [] h = tt
    above n (r ∷ rows) h = (h.0, above n rows h.1)

    rise : (rows : List (Row Owner)) → StandInOrder rows → StandSo (λ (p q : ℕ × Owner). p.0 < q.0) (map pair_of rows)
    rise [] h = tt
    rise (r ∷ rows) h = (above r.number rows h.0, rise rows h.1)

value_left : (p : Row Owner → Bool) (test : Owner → Bool) (rows : List (Row Owner)) (o : Owner) → value_in (find p rows) ≡ Some o → test o ≡ false → value_in (find p (without (λ r. test r.value) rows)) ≡ Some o
value_left p test rows o found fails = by (find p rows) refl found
  where
    same : (r : Row Owner) → value_in (Some r) ≡ Some o → r.value ≡ o
    same r is = cc

    by : (at : Option (Row Owner)) → find p rows ≡ at → value_in at ≡ Some o → value_in (find p (without (λ r. test r.value) rows)) ≡ Some o
    by None there is = absurd (cc)
    by (Some r) there is = ap value_in (find_left p (λ r. test r.value) rows r there (ap test (same r is) ∙ fails)) ∙ is

value_gone : (n : ℕ) (test : Owner → Bool) (rows : List (Row Owner)) (o : Owner) → StandInOrder rows → value_in (find (is_numbered n) rows) ≡ Some o → test o ≡ true → find (is_numbered n) (without (λ r. test r.value) rows) ≡ None
value_gone n test rows o order found passes =
    find_gone (is_numbered n) (λ r. test r.value) rows
    (all_weaken (λ r. find (is_numbered r.number) rows ≡ Some r) (λ r. is_numbered n r ≡ true → test r.value ≡ true)
    (λ r own is. ap test (same r (ap (λ k. value_in (find (is_numbered k) rows)) (eqb-true r.number n is)) own) ∙ passes) rows (rows_own rows order))
  where
    same : (r : Row Owner) → value_in (find (is_numbered r.number) rows) ≡ value_in (find (is_numbered n) rows) → find (is_numbered r.number) rows ≡ Some r → r.value ≡ o
    same r numbers own = some_owner r.value o (sym (ap value_in own) ∙ numbers ∙ found)
      where
        some_owner : (a b : Owner) → Some a ≡ Some b → a ≡ b
        some_owner a b is = cc

unlisted : (m : ℕ) (rows : List (Row Owner)) → list_any (λ p. p.0 == m) (map pair_of rows) ≡ false → AllByRecursion (λ r. is_numbered m r ≡ false) rows
unlisted m [] none = tt
unlisted m (r ∷ rows) none =
    let parts = neither (is_numbered m r) (list_any (λ (p : ℕ × Owner). p.0 == m) (map pair_of rows)) none in
    (parts.0, unlisted m rows parts.1)

-- at first all are left
pub left_all : (test : Owner → Bool) (rows : List (Row Owner)) → closed_at rows ≡ left test rows (map pair_of rows)
left_all test rows = λ i m. by m (list_any (λ p. p.0 == m) (map pair_of rows)) refl i
  where
    by : (m : ℕ) (b : Bool) → list_any (λ p. p.0 == m) (map pair_of rows) ≡ b → closed_at rows m ≡ left test rows (map pair_of rows) m
    by m true listed = sym (ap (λ b. if b then closed_at rows m else closed_at (without (λ r. test r.value) rows) m) listed)
    by m false none =
        let others = unlisted m rows none in
        ap (λ found. closed_of (value_in found)) (sym (find_without (is_numbered m) (λ r. test r.value) rows (all_weaken (λ r. is_numbered m r ≡ false) (λ r. test r.value ≡ true → is_numbered m r ≡ false) (λ r other _. other) rows others)))
        ∙ sym (ap (λ b. if b then closed_at rows m else closed_at (without (λ r. test r.value) rows) m) none)

module _ (test : Owner → Bool) (rows : List (Row Owner)) (p : ℕ × Owner) (ps : List (ℕ × Owner)) (order : StandInOrder rows) (are : ArePairs rows (p ∷ ps)) where
  abbrev Choice : ℕ → Bool → Option ℕ
  Choice m b = if b then closed_at rows m else closed_at (without (λ r. test r.value) rows) m

  none_listed : (qs : List (ℕ × Owner)) → AllByRecursion (λ q. p.0 < q.0) qs → list_any (λ q. q.0 == p.0) qs ≡ false
  none_listed [] h = refl
  none_listed (q ∷ qs) h = ap (λ b. b || list_any (λ q. q.0 == p.0) qs) (false_from_ne_true (q.0 == p.0) (λ same. omega (arith, h.0, eqb-true q.0 p.0 same))) ∙ none_listed qs h.1

  first : left test rows (p ∷ ps) p.0 ≡ closed_at rows p.0
  first = ap (λ b. Choice p.0 (b || list_any (λ q. q.0 == p.0) ps)) (true_from_ne_false _ (λ differs. eqb-false p.0 p.0 differs refl))

  other : (m : ℕ) → p.0 ≢ m → left test rows (p ∷ ps) m ≡ left test rows ps m
  other m differs = ap (λ b. Choice m (b || list_any (λ q. q.0 == m) ps)) (false_from_ne_true _ (λ same. differs (eqb-true p.0 m same)))

  passed : left test rows ps p.0 ≡ closed_at (without (λ r. test r.value) rows) p.0
  passed = ap (Choice p.0) (none_listed ps are.1.0)

  pub left_closed : left test rows (p ∷ ps) p.0 ≡ closed_by p.1.state.kept
  left_closed = first ∙ ap closed_of are.0.0

  pub left_forgotten : test p.1 ≡ true → with_at p.0 None (left test rows (p ∷ ps)) ≡ left test rows ps
  left_forgotten passes = λ i m. by m (cases_eq p.0 m) i
    where
      by : (m : ℕ) → (p.0 ≡ m) ⊎ (p.0 ≢ m) → with_at p.0 None (left test rows (p ∷ ps)) m ≡ left test rows ps m
      by m (inl same) =
          at_own p.0 None (left test rows (p ∷ ps)) m same
          ∙ sym (ap (left test rows ps) (sym same) ∙ passed ∙ ap (λ found. closed_of (value_in found)) (value_gone p.0 test rows p.1 order are.0.0 passes))
      by m (inr differs) = at_other p.0 None (left test rows (p ∷ ps)) m differs ∙ other m differs

  pub left_kept : test p.1 ≡ false → left test rows (p ∷ ps) ≡ left test rows ps
  left_kept fails = λ i m. by m (cases_eq p.0 m) i
    where
      by : (m : ℕ) → (p.0 ≡ m) ⊎ (p.0 ≢ m) → left test rows (p ∷ ps) m ≡ left test rows ps m
      by m (inl same) =
          ap (left test rows (p ∷ ps)) (sym same) ∙ left_closed
          ∙ sym (ap (left test rows ps) (sym same) ∙ passed ∙ ap closed_of (value_left (is_numbered p.0) test rows p.1 are.0.0 fails))
      by m (inr differs) = other m differs

-- a walk over the pairs of rows for the first owner that passes a test

pub pairs_found : (test : Owner → Bool) (rows : List (Row Owner)) → option_map (λ p. p.1) (find (λ p. test p.1) (map pair_of rows)) ≡ find test (owners_in rows)
pairs_found test [] = refl
pairs_found test (r ∷ rows) = by (test r.value) (pairs_found test rows)
  where
    by : (b : Bool) → option_map (λ p. p.1) (find (λ p. test p.1) (map pair_of rows)) ≡ find test (owners_in rows)
        → option_map (λ p. p.1) (cond b (Some (pair_of r)) (find (λ p. test p.1) (map pair_of rows))) ≡ cond b (Some r.value) (find test (owners_in rows))
    by true rest = refl
    by false rest = rest
