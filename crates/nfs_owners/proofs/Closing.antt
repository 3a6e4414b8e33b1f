-- An index from states that were closed to the rows whose owners closed them.
use Rattle.std.proofs.Common.{◌≡◌, ◌≢◌, ℕ, ◌<◌, ◌==◌, length, Bool, true, false, Some, None, Option, List, [], ◌∷◌, ◌++◌, cond, find, refl, sym, ap, ◌∙◌, subst, arith, inl, inr}
use Rattle.std.specs.Prelude.{◌⊎◌, ◌&&◌, filter, if◌then◌else◌, not, option_map}
use Rattle.std.specs.List.{AllByRecursion}
use Rattle.std.proofs.lemmas.Bool.{cases_eq, eqb-true, eqb-false, false_from_ne_true, true_from_ne_false}
use Rattle.nfs_rows.specs.Rows.{IsAbove, Row, StandInOrder, is_numbered, value_in, without}
use Rattle.nfs_rows.proofs.Each.{all_weaken, find_none, find_past}
use Rattle.nfs_forms.specs.ClientId.{is_same_client}
use Rattle.nfs_owners.specs.declared.kept.KeptSummary.{KeptSummary}
use Rattle.nfs_owners.specs.Closers.{IsInverse, closed_at, closed_by, closed_of, nothing, with_at}
use Rattle.nfs_owners.specs.Kept.{is_of_state, summary_closes}
use Rattle.nfs_owners.specs.OwnerRows.{owners_in, with_state_at}
use Rattle.nfs_owners.specs.declared.owner.Owner.{Owner}
use Rattle.nfs_owners.specs.declared.owner.OwnerState.{OwnerState}
use Rattle.nfs_forms.specs.declared.client_id.ClientId.{ClientId}
use Rattle.nfs_forms.specs.declared.stateid.Stateid.{Stateid}

same_number : (a b : ℕ) → Some a ≡ Some b → a ≡ b
same_number a b is = cc

pub no_number : (a : ℕ) → None ≡ Some a → ⊥
no_number a is = cc

-- a number is another one's, or not
pub at_own : (row : ℕ) (closed : Option ℕ) (f : ℕ → Option ℕ) (other : ℕ) → row ≡ other → with_at row closed f other ≡ closed
at_own row closed f other same = ap (λ b. if b then closed else f other) (true_from_ne_false _ (λ differs. eqb-false other row differs (sym same)))

pub at_other : (row : ℕ) (closed : Option ℕ) (f : ℕ → Option ℕ) (other : ℕ) → row ≢ other → with_at row closed f other ≡ f other
at_other row closed f other differs = ap (λ b. if b then closed else f other) (false_from_ne_true _ (λ same. differs (sym (eqb-true other row same))))

-- one row after another
pub with_twice : (row : ℕ) (first closed : Option ℕ) (f : ℕ → Option ℕ) → with_at row closed (with_at row first f) ≡ with_at row closed f
with_twice row first closed f = λ i other. by (other == row) (f other) i
  where
    by : (b : Bool) (was : Option ℕ) → (if b then closed else (if b then first else was)) ≡ (if b then closed else was)
    by true was = refl
    by false was = refl

-- which state a row closed, after a change of one row

find_state : (change : OwnerState → OwnerState) (row m : ℕ) (rows : List (Row Owner)) → value_in (find (is_numbered m) (with_state_at change row rows)) ≡ option_map (λ o. if m == row then record o { state = change o.state } else o) (value_in (find (is_numbered m) rows))
find_state change row m [] = refl
find_state change row m (r ∷ rows) = by (is_numbered row r) refl (is_numbered m r) refl (find_state change row m rows)
  where
    same : (k : ℕ) → k == m ≡ true → k == row ≡ (m == row)
    same k is = ap (λ n. n == row) (eqb-true k m is)

    by : (b : Bool) → is_numbered row r ≡ b → (d : Bool) → is_numbered m r ≡ d → value_in (find (is_numbered m) (with_state_at change row rows)) ≡ option_map (λ o. if m == row then record o { state = change o.state } else o) (value_in (find (is_numbered m) rows))
        → value_in (find (is_numbered m) (with_state_at change row (r ∷ rows))) ≡ option_map (λ o. if m == row then record o { state = change o.state } else o) (value_in (find (is_numbered m) (r ∷ rows)))
    by true here true is rest = grind (arith, here, is, same r.number is)
    by true here false is rest = grind (arith, here, is, rest)
    by false here true is rest = grind (arith, here, is, same r.number is)
    by false here false is rest = grind (arith, here, is, rest)

pub closed_changed : (change : OwnerState → OwnerState) (row : ℕ) (o : Owner) (closed : Option ℕ) (rows : List (Row Owner)) → Some o ≡ value_in (find (is_numbered row) rows) → closed_by (change o.state).kept ≡ closed
    → with_at row closed (closed_at rows) ≡ closed_at (with_state_at change row rows)
closed_changed change row o closed rows found is = λ i m. by m (cases_eq row m) i
  where
    same_value : (found : Option Owner) → closed_of (option_map (λ o. o) found) ≡ closed_of found
    same_value None = refl
    same_value (Some o) = refl

    own : row == row ≡ true
    own = true_from_ne_false _ (λ differs. eqb-false row row differs refl)

    here : with_at row closed (closed_at rows) row ≡ closed_at (with_state_at change row rows) row
    here =
        at_own row closed (closed_at rows) row refl ∙ sym is
        ∙ sym (ap closed_of (find_state change row row rows) ∙ (λ i. closed_of (option_map {T = Owner} {U = Owner} (λ o. if own i then record o { state = change o.state } else o) (sym found i))))

    by : (m : ℕ) → (row ≡ m) ⊎ (row ≢ m) → with_at row closed (closed_at rows) m ≡ closed_at (with_state_at change row rows) m
    by m (inl same) = subst (λ m. with_at row closed (closed_at rows) m ≡ closed_at (with_state_at change row rows) m) same here
    by m (inr differs) =
        let other : m == row ≡ false = false_from_ne_true _ (λ same. differs (sym (eqb-true m row same))) in
        at_other row closed (closed_at rows) m differs
        ∙ sym (
        ap closed_of (find_state change row m rows)
        ∙ ap (λ b. closed_of (option_map {T = Owner} {U = Owner} (λ o. if b then record o { state = change o.state } else o) (value_in (find (is_numbered m) rows)))) other
        ∙ same_value (value_in (find (is_numbered m) rows))
        )

-- a change that leaves the kept request
pub closed_same : (change : OwnerState → OwnerState) → ((s : OwnerState) → (change s).kept ≡ s.kept) → (row : ℕ) (rows : List (Row Owner)) → closed_at rows ≡ closed_at (with_state_at change row rows)
closed_same change keeps row rows = λ i m. sym (ap closed_of (find_state change row m rows) ∙ by (m == row) (value_in (find (is_numbered m) rows))) i
  where
    by : (b : Bool) (found : Option Owner) → closed_of (option_map {T = Owner} {U = Owner} (λ o. if b then record o { state = change o.state } else o) found) ≡ closed_of found
    by true None = refl
    by false None = refl
    by true (Some o) = ap closed_by (keeps o.state)
    by false (Some o) = refl

-- after a row was removed

false_not_true : false ≡ true → ⊥
false_not_true is = cc

module _ {X : Type 0} where
  pub find_without : (p test : X → Bool) (xs : List X) → AllByRecursion (λ x. test x ≡ true → p x ≡ false) xs → find p (filter (λ x. not (test x)) xs) ≡ find p xs
  find_without p test [] h = refl
  find_without p test (x ∷ xs) h = by (test x) refl (find_without p test xs h.1)
    where
      by : (b : Bool) → test x ≡ b → find p (filter (λ x. not (test x)) xs) ≡ find p xs → find p (cond (not b) (x ∷ filter (λ x. not (test x)) xs) (filter (λ x. not (test x)) xs)) ≡ cond (p x) (Some x) (find p xs)
      by true is rest = rest ∙ sym (ap (λ b. cond b (Some x) (find p xs)) (h.0 is))
      by false is rest = ap (λ found. cond (p x) (Some x) found) rest

  pub find_gone : (p test : X → Bool) (xs : List X) → AllByRecursion (λ x. p x ≡ true → test x ≡ true) xs → find p (filter (λ x. not (test x)) xs) ≡ None
  find_gone p test [] h = refl
  find_gone p test (x ∷ xs) h = by (test x) refl (find_gone p test xs h.1)
    where
      by : (b : Bool) → test x ≡ b → find p (filter (λ x. not (test x)) xs) ≡ None → find p (cond (not b) (x ∷ filter (λ x. not (test x)) xs) (filter (λ x. not (test x)) xs)) ≡ None
      by true is rest = rest
      by false is rest = ap (λ b. cond b (Some x) (find p (filter (λ x. not (test x)) xs))) (false_from_ne_true _ (λ passes. false_not_true (sym is ∙ h.0 passes))) ∙ rest

  pub find_left : (p test : X → Bool) (xs : List X) (x : X) → find p xs ≡ Some x → test x ≡ false → find p (filter (λ x. not (test x)) xs) ≡ Some x
  find_left p test [] x found fails = absurd (cc)
  find_left p test (y ∷ xs) x found fails = by (p y) refl found (λ there. find_left p test xs x there fails)
    where
      some_same : (a b : X) → Some a ≡ Some b → a ≡ b
      some_same a b is = cc

      past : (b : Bool) → p y ≡ false → find p (filter (λ x. not (test x)) xs) ≡ Some x → find p (cond b (y ∷ filter (λ x. not (test x)) xs) (filter (λ x. not (test x)) xs)) ≡ Some x
      past true fails rest = ap (λ b. cond b (Some y) (find p (filter (λ x. not (test x)) xs))) fails ∙ rest
      past false fails rest = rest

      by : (b : Bool) → p y ≡ b → cond b (Some y) (find p xs) ≡ Some x → (find p xs ≡ Some x → find p (filter (λ x. not (test x)) xs) ≡ Some x) → find p (filter (λ x. not (test x)) (y ∷ xs)) ≡ Some x
      by true is here rest =
          let same = some_same y x here in
          (λ i. find p (cond (not ((ap test same ∙ fails) i)) (y ∷ filter (λ x. not (test x)) xs) (filter (λ x. not (test x)) xs)))
          ∙ ap (λ b. cond b (Some y) (find p (filter (λ x. not (test x)) xs))) is ∙ ap Some same
      by false is there rest = past (not (test y)) is (rest there)

all_rows : (P : Row Owner → Type 0) → ((r : Row Owner) → P r) → (rows : List (Row Owner)) → AllByRecursion P rows
all_rows P h [] = tt
all_rows P h (r ∷ rows) = (h r, all_rows P h rows)

pub closed_less : (row : ℕ) (rows : List (Row Owner)) → with_at row None (closed_at rows) ≡ closed_at (without (is_numbered row) rows)
closed_less row rows = λ i m. by m (cases_eq row m) i
  where
    by : (m : ℕ) → (row ≡ m) ⊎ (row ≢ m) → with_at row None (closed_at rows) m ≡ closed_at (without (is_numbered row) rows) m
    by m (inl same) =
        at_own row None (closed_at rows) m same
        ∙ sym (ap (λ found. closed_of (value_in found)) (find_gone (is_numbered m) (is_numbered row) rows (all_rows (λ r. is_numbered m r ≡ true → is_numbered row r ≡ true) (λ r is. ap (λ n. r.number == n) same ∙ is) rows)))
    by m (inr differs) =
        at_other row None (closed_at rows) m differs
        ∙ sym (ap (λ found. closed_of (value_in found)) (find_without (is_numbered m) (is_numbered row) rows
        (all_rows (λ r. is_numbered row r ≡ true → is_numbered m r ≡ false) (λ r is. false_from_ne_true _ (λ other. differs (sym (eqb-true r.number row is) ∙ eqb-true r.number m other))) rows)))

-- after a row was added
unnumbered : (number : ℕ) (rows : List (Row Owner)) → IsAbove number rows → AllByRecursion (λ r. is_numbered number r ≡ false) rows
unnumbered number rows above =
    all_weaken (λ r. r.number < number) (λ r. is_numbered number r ≡ false) (λ r below. false_from_ne_true _ (λ same. omega (arith, below, eqb-true r.number number same))) rows above

pub closed_nothing : (number : ℕ) (rows : List (Row Owner)) → IsAbove number rows → closed_at rows number ≡ None
closed_nothing number rows above = ap (λ found. closed_of (value_in found)) (find_none (is_numbered number) rows (unnumbered number rows above))

pub closed_more : (rows : List (Row Owner)) (r : Row Owner) → IsAbove r.number rows → with_at r.number (closed_by r.value.state.kept) (closed_at rows) ≡ closed_at (rows ++ r ∷ [])
closed_more rows r above = λ i m. by m (cases_eq r.number m) i
  where
    past : (m : ℕ) (rows : List (Row Owner)) → is_numbered m r ≡ false → find (is_numbered m) (rows ++ r ∷ []) ≡ find (is_numbered m) rows
    past m [] other = ap (λ b. cond b (Some r) None) other
    past m (s ∷ rows) other = ap (λ found. cond (is_numbered m s) (Some s) found) (past m rows other)

    by : (m : ℕ) → (r.number ≡ m) ⊎ (r.number ≢ m) → with_at r.number (closed_by r.value.state.kept) (closed_at rows) m ≡ closed_at (rows ++ r ∷ []) m
    by m (inl same) =
        at_own r.number (closed_by r.value.state.kept) (closed_at rows) m same
        ∙ sym (ap (λ found. closed_of (value_in found))
        (find_past (is_numbered m) rows (r ∷ []) (subst (λ n. AllByRecursion (λ s. is_numbered n s ≡ false) rows) same (unnumbered r.number rows above))
        ∙ ap (λ b. cond b (Some r) None) (true_from_ne_false _ (λ differs. eqb-false r.number m differs same))))
    by m (inr differs) =
        at_other r.number (closed_by r.value.state.kept) (closed_at rows) m differs
        ∙ sym (ap (λ found. closed_of (value_in found)) (past m rows (false_from_ne_true _ (λ same. differs (eqb-true r.number m same)))))

-- the owner that closed a state

second : (a b : Bool) → a && b ≡ true → b ≡ true
second true b is = is
second false b is = absurd (cc)

closes_exact : (client : ClientId) (number : ℕ) (kept : KeptSummary) → summary_closes client number kept ≡ true → closed_by kept ≡ Some number
closes_exact client number kept is = by kept.closed is
  where
    by : (closed : Option Stateid) → is_of_state client number closed ≡ true → option_map (λ id. id.number) closed ≡ Some number
    by None is = absurd (cc)
    by (Some id) is = ap Some (eqb-true id.number number (second (is_same_client id.client client) (id.number == number) is))

-- the row with a number is the one that is found by it
pub rows_own : (rows : List (Row Owner)) → StandInOrder rows → AllByRecursion (λ r. find (is_numbered r.number) rows ≡ Some r) rows
rows_own [] order = tt
rows_own (r ∷ rows) order = (ap (λ b. cond b (Some r) (find (is_numbered r.number) rows)) (true_from_ne_false _ (λ differs. eqb-false r.number r.number differs refl)), behind rows order.0 (rows_own rows order.1))
  where
    behind : (back : List (Row Owner)) → AllByRecursion (λ s. r.number < s.number) back → AllByRecursion (λ s. find (is_numbered s.number) rows ≡ Some s) back → AllByRecursion (λ s. find (is_numbered s.number) (r ∷ rows) ≡ Some s) back
    behind [] above own = tt
    behind (s ∷ back) above own =
        (ap (λ b. cond b (Some r) (find (is_numbered s.number) rows)) (false_from_ne_true (is_numbered s.number r) (λ same. omega (arith, above.0, eqb-true r.number s.number same))) ∙ own.0, behind back above.1 own.1)

pub empty_nothing : (rows : List (Row Owner)) → length rows == 0 ≡ true → nothing ≡ closed_at rows
empty_nothing [] is = refl
empty_nothing (r ∷ rows) is = absurd (omega (arith, eqb-true (length (r ∷ rows)) 0 is))

-- where the index has nothing at a state, no owner closed it
pub none_closed : (client : ClientId) (number : ℕ) (index : ℕ → Option ℕ) (rows : List (Row Owner)) → StandInOrder rows → IsInverse index (closed_at rows) → index number ≡ None
    → None ≡ find (λ o. summary_closes client number o.state.kept) (owners_in rows)
none_closed client number index rows order inverse none =
    sym (seen_none rows (all_weaken (λ r. find (is_numbered r.number) rows ≡ Some r) (λ r. summary_closes client number r.value.state.kept ≡ false)
    (λ r own. false_from_ne_true _ (λ closed. no_number r.number (sym none ∙ inverse.leads number r.number (ap (λ found. closed_of (value_in found)) own ∙ closes_exact client number r.value.state.kept closed)))) rows (rows_own rows order)))
  where
    seen_none : (rows : List (Row Owner)) → AllByRecursion (λ r. summary_closes client number r.value.state.kept ≡ false) rows → find (λ o. summary_closes client number o.state.kept) (owners_in rows) ≡ None
    seen_none [] h = refl
    seen_none (r ∷ rows) h = ap (λ b. cond b (Some r.value) (find (λ o. summary_closes client number o.state.kept) (owners_in rows))) h.0 ∙ seen_none rows h.1

some_same : {X : Type 0} (x y : X) → Some x ≡ Some y → x ≡ y
some_same x y is = cc

true_not_false : true ≡ false → ⊥
true_not_false is = cc

-- where only one row may pass a test, the owner in it is the first that passes, or none is
left_out : (test : Owner → Bool) (r : Row Owner) (rows : List (Row Owner)) → AllByRecursion (λ s. test s.value ≡ true → s ≡ r) rows → test r.value ≡ false → None ≡ find test (owners_in rows)
left_out test r [] only fails = refl
left_out test r (s ∷ rows) only fails =
    left_out test r rows only.1 fails
    ∙ sym (ap (λ b. cond b (Some s.value) (find test (owners_in rows))) (false_from_ne_true _ (λ passes. true_not_false (sym passes ∙ ap (λ (s : Row Owner). test s.value) (only.0 passes) ∙ fails))))

kept_in : (p : Row Owner → Bool) (test : Owner → Bool) (r : Row Owner) (rows : List (Row Owner)) → AllByRecursion (λ s. test s.value ≡ true → s ≡ r) rows → find p rows ≡ Some r → test r.value ≡ true → Some r.value ≡ find test (owners_in rows)
kept_in p test r [] only there passes = absurd (cc)
kept_in p test r (s ∷ rows) only there passes = by (test s.value) refl (p s) there (λ further. kept_in p test r rows only.1 further passes)
  where
    by : (b : Bool) → test s.value ≡ b → (d : Bool) → cond d (Some s) (find p rows) ≡ Some r → (find p rows ≡ Some r → Some r.value ≡ find test (owners_in rows)) → Some r.value ≡ cond (test s.value) (Some s.value) (find test (owners_in rows))
    by true is d here rest = sym (ap (λ b. cond b (Some s.value) (find test (owners_in rows))) is ∙ ap (λ (s : Row Owner). Some s.value) (only.0 is))
    by false fails true here rest = absurd (true_not_false (sym passes ∙ ap (λ (s : Row Owner). test s.value) (sym (some_same s r here)) ∙ fails))
    by false fails false there rest = rest there ∙ sym (ap (λ b. cond b (Some s.value) (find test (owners_in rows))) fails)

-- where the index has a row at a state, no other row closed it
only_one : (client : ClientId) (number row : ℕ) (index : ℕ → Option ℕ) (rows : List (Row Owner)) (r : Row Owner) → StandInOrder rows → IsInverse index (closed_at rows) → index number ≡ Some row → find (is_numbered row) rows ≡ Some r
    → AllByRecursion (λ s. summary_closes client number s.value.state.kept ≡ true → s ≡ r) rows
only_one client number row index rows r order inverse led there =
    all_weaken (λ s. find (is_numbered s.number) rows ≡ Some s) (λ s. summary_closes client number s.value.state.kept ≡ true → s ≡ r)
    (λ s own closed. some_same s r (sym own ∙ ap (λ n. find (is_numbered n) rows) (same_number s.number row (sym (inverse.leads number s.number (ap (λ found. closed_of (value_in found)) own ∙ closes_exact client number s.value.state.kept closed)) ∙ led)) ∙ there))
    rows (rows_own rows order)

module _ (client : ClientId) (number row : ℕ) (o : Owner) (index : ℕ → Option ℕ) (rows : List (Row Owner)) (order : StandInOrder rows) (inverse : IsInverse index (closed_at rows)) (led : index number ≡ Some row)
    (found : Some o ≡ value_in (find (is_numbered row) rows)) where
  owner_same : (r : Row Owner) → Some o ≡ value_in (Some r) → r.value ≡ o
  owner_same r is = cc

  pub closer_found : summary_closes client number o.state.kept ≡ true → Some o ≡ find (λ o. summary_closes client number o.state.kept) (owners_in rows)
  closer_found closed = by (find (is_numbered row) rows) refl found
    where
      by : (at : Option (Row Owner)) → find (is_numbered row) rows ≡ at → Some o ≡ value_in at → Some o ≡ find (λ o. summary_closes client number o.state.kept) (owners_in rows)
      by None there is = absurd (cc)
      by (Some r) there is =
          let same = owner_same r is in
          ap Some (sym same) ∙ kept_in (is_numbered row) (λ o. summary_closes client number o.state.kept) r rows (only_one client number row index rows r order inverse led there) there (ap (λ (o : Owner). summary_closes client number o.state.kept) same ∙ closed)

  pub closer_missed : summary_closes client number o.state.kept ≡ false → None ≡ find (λ o. summary_closes client number o.state.kept) (owners_in rows)
  closer_missed fails = by (find (is_numbered row) rows) refl found
    where
      by : (at : Option (Row Owner)) → find (is_numbered row) rows ≡ at → Some o ≡ value_in at → None ≡ find (λ o. summary_closes client number o.state.kept) (owners_in rows)
      by None there is = absurd (cc)
      by (Some r) there is =
          left_out (λ o. summary_closes client number o.state.kept) r rows (only_one client number row index rows r order inverse led there) (ap (λ (o : Owner). summary_closes client number o.state.kept) (owner_same r is) ∙ fails)
