-- For callers whose own view is a list that is seen of the rows, as that of their values.
use Rattle.std.proofs.Common.{◌≡◌, ℕ, ◌<◌, Bool, true, false, not, cond, ◌&&◌, List, [], ◌∷◌, filter, find, map, option_map, Option, Some, None, refl, sym, ap, subst, ◌∙◌, arith}
use Rattle.std.specs.List.{AllByRecursion}
use Rattle.std.proofs.lemmas.Bool.{eqb-true, eqb-false, false_from_ne_true, true_from_ne_false}
use Rattle.nfs_rows.specs.Rows.{Row, StandInOrder, StandSo, is_named, is_numbered, is_of_client, pair_in, pair_of, value_in, with_value, without}
use Rattle.nfs_rows.proofs.Each.{all_both, all_weaken, change_none}

module _ {V W : Type 0} (seen : Row V → W) where
  -- what is found, and what is left, where a test of what is seen answers as one of the rows

  pub find_seen : (test : Row V → Bool) (other : W → Bool) (rows : List (Row V)) → AllByRecursion (λ r. test r ≡ other (seen r)) rows
      → option_map seen (find test rows) ≡ find other (map seen rows)
  find_seen test other [] h = refl
  find_seen test other (r ∷ rows) h = by (test r) (find_seen test other rows h.1) ∙ ap (λ b. cond b (Some (seen r)) (find other (map seen rows))) h.0
    where
      by : (b : Bool) → option_map seen (find test rows) ≡ find other (map seen rows) → option_map seen (cond b (Some r) (find test rows)) ≡ cond b (Some (seen r)) (find other (map seen rows))
      by true rest = refl
      by false rest = rest

  pub without_seen : (test : Row V → Bool) (other : W → Bool) (rows : List (Row V)) → AllByRecursion (λ r. test r ≡ other (seen r)) rows
      → map seen (without test rows) ≡ filter (λ w. not (other w)) (map seen rows)
  without_seen test other [] h = refl
  without_seen test other (r ∷ rows) h =
      by (test r) (without_seen test other rows h.1) ∙ ap (λ b. cond (not b) (seen r ∷ filter (λ w. not (other w)) (map seen rows)) (filter (λ w. not (other w)) (map seen rows))) h.0
    where
      by : (b : Bool) → map seen (without test rows) ≡ filter (λ w. not (other w)) (map seen rows)
          → map seen (cond (not b) (r ∷ without test rows) (without test rows)) ≡ cond (not b) (seen r ∷ filter (λ w. not (other w)) (map seen rows)) (filter (λ w. not (other w)) (map seen rows))
      by true rest = rest
      by false rest = ap (λ ws. seen r ∷ ws) rest

  pub map_seen : (change : Row V → Row V) (other : W → W) (rows : List (Row V)) → AllByRecursion (λ r. seen (change r) ≡ other (seen r)) rows → map seen (map change rows) ≡ map other (map seen rows)
  map_seen change other [] h = refl
  map_seen change other (r ∷ rows) h = λ i. h.0 i ∷ map_seen change other rows h.1 i

  -- what is known of each row, and of each that is seen, tells something of each row
  pub all_seen : (I : Row V → Type 0) (P : W → Type 0) (Q : Row V → Type 0) → ((r : Row V) → I r → P (seen r) → Q r) → (rows : List (Row V)) → AllByRecursion I rows → AllByRecursion P (map seen rows)
      → AllByRecursion Q rows
  all_seen I P Q leads [] known h = tt
  all_seen I P Q leads (r ∷ rows) known h = (leads r known.0 h.0, all_seen I P Q leads rows known.1 h.1)

both_or_first : (a b : Bool) → (b ≡ true → a ≡ true) → (a && b) ≡ b
both_or_first true b h = refl
both_or_first false true h = h refl
both_or_first false false h = refl

module _ {V : Type 0} where
  -- the rows, with a change of the value in the one with the number
  abbrev pub with_change : ℕ → (V → V) → List (Row V) → List (Row V)
  with_change number change rows = map (λ r. cond (is_numbered number r) (record r { value = change r.value }) r) rows

  others_behind : (number : ℕ) (r : Row V) (rows : List (Row V)) → AllByRecursion (λ s. r.number < s.number) rows → is_numbered number r ≡ true → AllByRecursion (λ s. is_numbered number s ≡ false) rows
  others_behind number r rows above is =
      all_weaken (λ s. r.number < s.number) (λ s. is_numbered number s ≡ false)
      (λ s more. false_from_ne_true _ (λ same. omega (arith, more, eqb-true r.number number is, eqb-true s.number number same))) rows above

  -- One value is set where it was found: that is a change of the one row with the number.
  pub with_value_is : (number : ℕ) (change : V → V) (v : V) (rows : List (Row V)) → StandInOrder rows → Some v ≡ value_in (find (is_numbered number) rows)
      → with_value number (change v) rows ≡ with_change number change rows
  with_value_is number change v [] order found = refl
  with_value_is number change v (r ∷ rows) order found = by (is_numbered number r) refl found (λ rest. with_value_is number change v rows order.1 rest)
    where
      same_value : (a b : V) → Some a ≡ Some b → a ≡ b
      same_value a b is = cc

      by : (b : Bool) → is_numbered number r ≡ b → Some v ≡ value_in (cond b (Some r) (find (is_numbered number) rows))
          → (Some v ≡ value_in (find (is_numbered number) rows) → with_value number (change v) rows ≡ with_change number change rows)
          → with_value number (change v) (r ∷ rows) ≡ with_change number change (r ∷ rows)
      by true is here rest =
          let others = others_behind number r rows order.0 is in
          (λ i. cond (is i) (record r { value = change (same_value v r.value here i) }) r ∷ change_none (is_numbered number) (λ s. record s { value = change v }) rows others i)
          ∙ sym (λ i. cond (is i) (record r { value = change r.value }) r ∷ change_none (is_numbered number) (λ s. record s { value = change s.value }) rows others i)
      by false is there rest =
          (λ i. cond (is i) (record r { value = change v }) r ∷ rest there i)
          ∙ sym (λ i. cond (is i) (record r { value = change r.value }) r ∷ with_change number change rows)

  -- Where none was found, a change of the row with the number changes nothing.
  pub with_change_none : (number : ℕ) (change : V → V) (rows : List (Row V)) → None ≡ value_in (find (is_numbered number) rows) → with_change number change rows ≡ rows
  with_change_none number change [] none = refl
  with_change_none number change (r ∷ rows) none = by (is_numbered number r) none (λ rest. with_change_none number change rows rest)
    where
      by : (b : Bool) → None ≡ value_in (cond b (Some r) (find (is_numbered number) rows)) → (None ≡ value_in (find (is_numbered number) rows) → with_change number change rows ≡ rows)
          → cond b (record r { value = change r.value }) r ∷ with_change number change rows ≡ r ∷ rows
      by true here rest = absurd (cc)
      by false there rest = ap (λ left. r ∷ left) (rest there)

  -- a change that keeps what is known of a row
  pub changed_all : (P : Row V → Type 0) (number : ℕ) (change : V → V) → ((r : Row V) → P r → P (record r { value = change r.value })) → (rows : List (Row V)) → AllByRecursion P rows
      → AllByRecursion P (with_change number change rows)
  changed_all P number change keeps [] h = tt
  changed_all P number change keeps (r ∷ rows) h = (by (is_numbered number r), changed_all P number change keeps rows h.1)
    where
      by : (b : Bool) → P (cond b (record r { value = change r.value }) r)
      by true = keeps r h.0
      by false = h.0

  -- a change that is seen as one of the values
  pub changed_seen : (number : ℕ) (change : V → V) (other : V → Bool) (rows : List (Row V)) → AllByRecursion (λ r. is_numbered number r ≡ other r.value) rows
      → map (λ r. r.value) (with_change number change rows) ≡ map (λ v. cond (other v) (change v) v) (map (λ r. r.value) rows)
  changed_seen number change other rows h =
      map_seen (λ r. r.value) (λ r. cond (is_numbered number r) (record r { value = change r.value }) r) (λ v. cond (other v) (change v) v) rows
      (all_weaken (λ r. is_numbered number r ≡ other r.value) (λ r. (cond (is_numbered number r) (record r { value = change r.value }) r).value ≡ cond (other r.value) (change r.value) r.value) (λ r is. by r (is_numbered number r) (other r.value) is) rows h)
    where
      by : (r : Row V) (a b : Bool) → a ≡ b → (cond a (record r { value = change r.value }) r).value ≡ cond b (change r.value) r.value
      by r true b is = ap (λ b. cond b (change r.value) r.value) is
      by r false b is = ap (λ b. cond b (change r.value) r.value) is

  -- what a walk shows, without the numbers
  pub values_shown : (rows : List (Row V)) → map (λ (f : ℕ × V). f.1) (map pair_of rows) ≡ map (λ r. r.value) rows
  values_shown [] = refl
  values_shown (r ∷ rows) = ap (λ vs. r.value ∷ vs) (values_shown rows)

  -- where only rows with a hash pass a test, the hash says no more than the test; and so with a client

  pub named_is : (hash : ℕ) (test : V → Bool) (rows : List (Row V)) → AllByRecursion (λ r. test r.value ≡ true → r.hash ≡ hash) rows → AllByRecursion (λ r. is_named hash test r ≡ test r.value) rows
  named_is hash test rows h =
      all_weaken (λ r. test r.value ≡ true → r.hash ≡ hash) (λ r. is_named hash test r ≡ test r.value)
      (λ r leads. both_or_first _ (test r.value) (λ passes. true_from_ne_false _ (λ differs. eqb-false r.hash hash differs (leads passes)))) rows h

  pub client_is : (client : ℕ) (test : V → Bool) (rows : List (Row V)) → AllByRecursion (λ r. test r.value ≡ true → r.client ≡ client) rows
      → AllByRecursion (λ r. is_of_client client test r ≡ test r.value) rows
  client_is client test rows h =
      all_weaken (λ r. test r.value ≡ true → r.client ≡ client) (λ r. is_of_client client test r ≡ test r.value)
      (λ r leads. both_or_first _ (test r.value) (λ passes. true_from_ne_false _ (λ differs. eqb-false r.client client differs (leads passes)))) rows h

  -- the value beside a number
  pub value_beside : (found : Option (Row V)) (number : ℕ) (v : V) → Some (number, v) ≡ pair_in found → value_in found ≡ Some v
  value_beside None number v is = absurd (cc)
  value_beside (Some r) number v is = ap (λ o. option_map (λ (f : ℕ × V). f.1) o) (sym is)

  pub none_beside : (found : Option (Row V)) → None ≡ pair_in found → value_in found ≡ None
  none_beside None is = refl
  none_beside (Some r) is = absurd (cc)

  -- a row that was found by one test, by its number

  found_all : (P : Row V → Type 0) (test : Row V → Bool) (r : Row V) (rows : List (Row V)) → AllByRecursion P rows → find test rows ≡ Some r → P r
  found_all P test r [] h found = absurd (cc)
  found_all P test r (q ∷ rows) h found = by (test q) found (λ rest. found_all P test r rows h.1 rest)
    where
      same_row : (a b : Row V) → Some a ≡ Some b → a ≡ b
      same_row a b is = cc

      by : (b : Bool) → cond b (Some q) (find test rows) ≡ Some r → (find test rows ≡ Some r → P r) → P r
      by true here rest = subst P (same_row q r here) h.0
      by false there rest = rest there

  pub found_again : (test : Row V → Bool) (r : Row V) (rows : List (Row V)) → StandInOrder rows → find test rows ≡ Some r → find (is_numbered r.number) rows ≡ Some r
  found_again test r [] order found = absurd (cc)
  found_again test r (q ∷ rows) order found = by (test q) found (λ rest. found_again test r rows order.1 rest)
    where
      same_row : (a b : Row V) → Some a ≡ Some b → a ≡ b
      same_row a b is = cc

      by : (b : Bool) → cond b (Some q) (find test rows) ≡ Some r → (find test rows ≡ Some r → find (is_numbered r.number) rows ≡ Some r) → find (is_numbered r.number) (q ∷ rows) ≡ Some r
      by true here rest =
          let same = same_row q r here in
          ap (λ b. cond b (Some q) (find (is_numbered r.number) rows)) (true_from_ne_false _ (λ differs. eqb-false q.number r.number differs (ap (λ (s : Row V). s.number) same))) ∙ here
      by false there rest =
          let below = found_all (λ s. q.number < s.number) test r rows order.0 there in
          ap (λ b. cond b (Some q) (find (is_numbered r.number) rows)) (false_from_ne_true _ (λ same. omega (arith, below, eqb-true q.number r.number same))) ∙ rest there

  -- At most one row passes the test.
  abbrev pub PassOnce : (Row V → Bool) → List (Row V) → Type 0
  PassOnce test rows = StandSo (λ r s. test r ≡ true → test s ≡ false) rows

  -- Then its number tells it from the others as the test does.
  pub only_found : (test : Row V → Bool) (r : Row V) (rows : List (Row V)) → StandInOrder rows → PassOnce test rows → find test rows ≡ Some r
      → AllByRecursion (λ s. is_numbered r.number s ≡ test s) rows
  only_found test r [] order once found = tt
  only_found test r (q ∷ rows) order once found = by (test q) refl found (λ rest. only_found test r rows order.1 once.1 rest)
    where
      same_row : (a b : Row V) → Some a ≡ Some b → a ≡ b
      same_row a b is = cc

      by : (b : Bool) → test q ≡ b → cond b (Some q) (find test rows) ≡ Some r
          → (find test rows ≡ Some r → AllByRecursion (λ s. is_numbered r.number s ≡ test s) rows) → AllByRecursion (λ s. is_numbered r.number s ≡ test s) (q ∷ rows)
      by true passes here rest =
          let same = ap (λ (s : Row V). s.number) (same_row q r here) in (
            true_from_ne_false _ (λ differs. eqb-false q.number r.number differs same) ∙ sym passes,
            all_both (λ s. q.number < s.number) (λ s. test q ≡ true → test s ≡ false) (λ s. is_numbered r.number s ≡ test s)
                (λ s above fails. false_from_ne_true _ (λ equal. omega (arith, above, same, eqb-true s.number r.number equal)) ∙ sym (fails passes)) rows order.0 once.0,
          )
      by false fails there rest =
          let below = found_all (λ s. q.number < s.number) test r rows order.0 there in
          (false_from_ne_true _ (λ equal. omega (arith, below, eqb-true q.number r.number equal)) ∙ sym fails, rest there)
