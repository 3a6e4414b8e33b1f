-- A value that is set in the row with a number.
use Rattle.std.proofs.Common.{◌≡◌, ℕ, ◌<◌, Bool, true, false, cond, List, [], ◌∷◌, find, map, Some, refl, sym, ap, ◌∙◌, subst, arith}
use Rattle.std.specs.List.{AllByRecursion}
use Rattle.std.proofs.lemmas.Bool.{eqb-true, false_from_ne_true}
use Rattle.nfs_rows.specs.Rows.{Row, StandInOrder, is_numbered, value_in, with_value}
use Rattle.nfs_rows.proofs.Each.{all_weaken, change_none}

module _ {V : Type 0} where
  same_value : (a b : V) → Some a ≡ Some b → a ≡ b
  same_value a b is = cc

  others : (number : ℕ) (r : Row V) (rows : List (Row V)) → AllByRecursion (λ s. r.number < s.number) rows → is_numbered number r ≡ true → AllByRecursion (λ s. is_numbered number s ≡ false) rows
  others number r rows above is =
      all_weaken (λ s. r.number < s.number) (λ s. is_numbered number s ≡ false)
      (λ s more. false_from_ne_true _ (λ same. omega (arith, more, eqb-true r.number number is, eqb-true s.number number same))) rows above

  others_stay : (number : ℕ) (w : V) (r : Row V) (rows : List (Row V)) → AllByRecursion (λ s. r.number < s.number) rows → is_numbered number r ≡ true → with_value number w rows ≡ rows
  others_stay number w r rows above is = change_none (is_numbered number) (λ s. record s { value = w }) rows (others number r rows above is)

  -- what is known of each row is known after it, if it is of the row with the value that was there
  pub set_all : (P : Row V → Type 0) (number : ℕ) (v w : V) → ((r : Row V) → r.value ≡ v → P r → P (record r { value = w })) → (rows : List (Row V)) → StandInOrder rows
      → Some v ≡ value_in (find (is_numbered number) rows) → AllByRecursion P rows → AllByRecursion P (with_value number w rows)
  set_all P number v w keeps [] order found h = tt
  set_all P number v w keeps (r ∷ rows) order found h = by (is_numbered number r) refl found (λ there. set_all P number v w keeps rows order.1 there h.1)
    where
      by : (b : Bool) → is_numbered number r ≡ b → Some v ≡ value_in (cond b (Some r) (find (is_numbered number) rows))
          → (Some v ≡ value_in (find (is_numbered number) rows) → AllByRecursion P (with_value number w rows))
          → AllByRecursion P (cond b (record r { value = w }) r ∷ with_value number w rows)
      by true is here rest = (keeps r (sym (same_value v r.value here)) h.0, subst (AllByRecursion P) (sym (others_stay number w r rows order.0 is)) h.1)
      by false is there rest = (h.0, rest there)

  -- what is so of the row with the value, and of each row with another number
  pub set_each : (I P : Row V → Type 0) (number : ℕ) (w : V) → ((r : Row V) → P (record r { value = w })) → ((r : Row V) → I r → is_numbered number r ≡ false → P r) → (rows : List (Row V))
      → AllByRecursion I rows → AllByRecursion P (with_value number w rows)
  set_each I P number w here there [] h = tt
  set_each I P number w here there (r ∷ rows) h = (by (is_numbered number r) refl, set_each I P number w here there rows h.1)
    where
      by : (b : Bool) → is_numbered number r ≡ b → P (cond b (record r { value = w }) r)
      by true is = here r
      by false is = there r h.0 is

  module _ {W : Type 0} (seen : V → W) where
    -- what is seen of the values, if it is the same of the new one
    pub set_same : (number : ℕ) (v w : V) (rows : List (Row V)) → StandInOrder rows → Some v ≡ value_in (find (is_numbered number) rows) → seen w ≡ seen v
        → map (λ r. seen r.value) (with_value number w rows) ≡ map (λ r. seen r.value) rows
    set_same number v w [] order found same = refl
    set_same number v w (r ∷ rows) order found same = by (is_numbered number r) refl found (λ there. set_same number v w rows order.1 there same)
      where
        by : (b : Bool) → is_numbered number r ≡ b → Some v ≡ value_in (cond b (Some r) (find (is_numbered number) rows))
            → (Some v ≡ value_in (find (is_numbered number) rows) → map (λ r. seen r.value) (with_value number w rows) ≡ map (λ r. seen r.value) rows)
            → map (λ r. seen r.value) (cond b (record r { value = w }) r ∷ with_value number w rows) ≡ seen r.value ∷ map (λ r. seen r.value) rows
        by true is here rest = λ i. (same ∙ ap seen (same_value v r.value here)) i ∷ map (λ r. seen r.value) (others_stay number w r rows order.0 is i)
        by false is there rest = ap (λ more. seen r.value ∷ more) (rest there)

    pub unchanged : (test : W → Bool) (change : W → W) (number : ℕ) (rows : List (Row V)) → AllByRecursion (λ r. is_numbered number r ≡ test (seen r.value)) rows
        → AllByRecursion (λ r. is_numbered number r ≡ false) rows → map (λ x. cond (test x) (change x) x) (map (λ r. seen r.value) rows) ≡ map (λ r. seen r.value) rows
    unchanged test change number [] tests none = refl
    unchanged test change number (r ∷ rows) tests none = λ i. cond ((sym tests.0 ∙ none.0) i) (change (seen r.value)) (seen r.value) ∷ unchanged test change number rows tests.1 none.1 i

    -- and if it is a change of what was seen
    pub set_changed : (test : W → Bool) (change : W → W) (number : ℕ) (v w : V) (rows : List (Row V)) → StandInOrder rows → Some v ≡ value_in (find (is_numbered number) rows)
        → AllByRecursion (λ r. is_numbered number r ≡ test (seen r.value)) rows → seen w ≡ change (seen v)
        → map (λ r. seen r.value) (with_value number w rows) ≡ map (λ x. cond (test x) (change x) x) (map (λ r. seen r.value) rows)
    set_changed test change number v w [] order found tests changed = refl
    set_changed test change number v w (r ∷ rows) order found tests changed =
        by (is_numbered number r) refl found (λ there. set_changed test change number v w rows order.1 there tests.1 changed)
      where
        all : List W
        all = map (λ r. seen r.value) rows

        by : (b : Bool) → is_numbered number r ≡ b → Some v ≡ value_in (cond b (Some r) (find (is_numbered number) rows))
            → (Some v ≡ value_in (find (is_numbered number) rows) → map (λ r. seen r.value) (with_value number w rows) ≡ map (λ x. cond (test x) (change x) x) all)
            → map (λ r. seen r.value) (cond b (record r { value = w }) r ∷ with_value number w rows) ≡ cond (test (seen r.value)) (change (seen r.value)) (seen r.value) ∷ map (λ x. cond (test x) (change x) x) all
        by true is here rest =
            (λ i. (changed ∙ ap (λ x. change (seen x)) (same_value v r.value here)) i ∷ (ap (map (λ r. seen r.value)) (others_stay number w r rows order.0 is) ∙ sym (unchanged test change number rows tests.1 (others number r rows order.0 is))) i)
            ∙ sym (ap (λ b. cond b (change (seen r.value)) (seen r.value) ∷ map (λ x. cond (test x) (change x) x) all) (sym tests.0 ∙ is))
        by false is there rest =
            ap (λ more. seen r.value ∷ more) (rest there)
            ∙ sym (ap (λ b. cond b (change (seen r.value)) (seen r.value) ∷ map (λ x. cond (test x) (change x) x) all) (sym tests.0 ∙ is))
