-- Loops that remove rows until none passes a test.
use Rattle.std.proofs.Common.{◌≡◌, ℕ, ◌<◌, ◌≤◌, suc, ◌==◌, Bool, true, false, not, ◌||◌, cond, List, [], ◌∷◌, filter, find, length, option_map, Option, Some, None, refl, sym, ap, ◌∙◌, arith}
use Rattle.std.specs.List.{AllByRecursion, list_any}
use Rattle.std.proofs.lemmas.Bool.{and_from, and_parts, eq-eqb, eqb-true, false≢true}
use Rattle.nfs_rows.specs.Rows.{Row, StandInOrder, is_numbered, is_of_client, without}
use Rattle.nfs_rows.proofs.Each.{all_weaken, drop_none}
use Rattle.nfs_locks.proofs.Elements.{all_found}

module _ {X : Type 0} where
  -- the element that something was read of
  pub record Read {N : Type 0} (read : X → N) (found : Option X) (n : N) : Type 0 where
    pub element : X
    pub there : found ≡ Some element
    pub is : read element ≡ n

  pub read_of : {N : Type 0} (read : X → N) (found : Option X) (n : N) → Some n ≡ option_map read found → Read read found n
  read_of read None n is = absurd (cc)
  read_of read (Some x) n is = record { element = x; there = refl; is = cc }

  pub none_passes : (test : X → Bool) (xs : List X) → find test xs ≡ None → AllByRecursion (λ x. test x ≡ false) xs
  none_passes test [] none = tt
  none_passes test (x ∷ xs) none = by (test x) refl none (none_passes test xs)
    where
      by : (b : Bool) → test x ≡ b → cond b (Some x) (find test xs) ≡ None → (find test xs ≡ None → AllByRecursion (λ x. test x ≡ false) xs) → (test x ≡ false) × AllByRecursion (λ x. test x ≡ false) xs
      by true is none rest = absurd (cc)
      by false is none rest = (is, rest none)

  pub none_read : {N : Type 0} (read : X → N) (found : Option X) → None ≡ option_map read found → found ≡ None
  none_read read None is = refl
  none_read read (Some x) is = absurd (cc)

  pub passing : (test other : X → Bool) (xs : List X) (x : X) → find test xs ≡ Some x → other x ≡ true → list_any other xs ≡ true
  passing test other [] x there is = absurd (cc)
  passing test other (y ∷ xs) x there is = by (test y) there (λ behind. passing test other xs x behind is)
    where
      same : (a b : X) → Some a ≡ Some b → a ≡ b
      same a b h = cc

      or_true : (b : Bool) → (b || true) ≡ true
      or_true true = refl
      or_true false = refl

      by : (b : Bool) → cond b (Some y) (find test xs) ≡ Some x → (find test xs ≡ Some x → list_any other xs ≡ true) → (other y || list_any other xs) ≡ true
      by true here rest = ap (λ b. b || list_any other xs) (ap other (same y x here) ∙ is)
      by false behind rest = ap (λ b. other y || b) (rest behind) ∙ or_true (other y)

  no_more : (test : X → Bool) (xs : List X) → length (filter (λ x. not (test x)) xs) ≤ length xs
  no_more test [] = omega arith
  no_more test (x ∷ xs) = by (test x) (no_more test xs)
    where
      by : (b : Bool) → length (filter (λ x. not (test x)) xs) ≤ length xs → length (cond (not b) (x ∷ filter (λ x. not (test x)) xs) (filter (λ x. not (test x)) xs)) ≤ suc (length xs)
      by true rest = omega (arith, rest)
      by false rest = omega (arith, rest)

  -- there are fewer without those that pass, if one passes
  pub fewer : (test : X → Bool) (xs : List X) → list_any test xs ≡ true → length (filter (λ x. not (test x)) xs) < length xs
  fewer test [] one = absurd (false≢true one)
  fewer test (x ∷ xs) one = by (test x) one (fewer test xs)
    where
      by : (b : Bool) → (b || list_any test xs) ≡ true → (list_any test xs ≡ true → length (filter (λ x. not (test x)) xs) < length xs)
          → length (cond (not b) (x ∷ filter (λ x. not (test x)) xs) (filter (λ x. not (test x)) xs)) < suc (length xs)
      by true one rest = omega (arith, no_more test xs)
      by false one rest = omega (arith, rest one)

  -- those that fail a test stay where only such go that pass it
  pub still_without : (test gone : X → Bool) (xs : List X) → AllByRecursion (λ x. gone x ≡ true → test x ≡ true) xs
      → filter (λ x. not (test x)) (filter (λ x. not (gone x)) xs) ≡ filter (λ x. not (test x)) xs
  still_without test gone [] h = refl
  still_without test gone (x ∷ xs) h = by (gone x) h.0 (still_without test gone xs h.1)
    where
      rest : List X
      rest = filter (λ x. not (gone x)) xs

      by : (b : Bool) → (b ≡ true → test x ≡ true) → filter (λ x. not (test x)) rest ≡ filter (λ x. not (test x)) xs
          → filter (λ x. not (test x)) (cond (not b) (x ∷ rest) rest) ≡ cond (not (test x)) (x ∷ filter (λ x. not (test x)) xs) (filter (λ x. not (test x)) xs)
      by true leads more = more ∙ sym (ap (λ b. cond (not b) (x ∷ filter (λ x. not (test x)) xs) (filter (λ x. not (test x)) xs)) (leads refl))
      by false leads more = ap (λ more. cond (not (test x)) (x ∷ more) more) more

module _ {V : Type 0} where
  -- the row that was found is the only one with its number
  pub numbered_pass : (test : Row V → Bool) (number : ℕ) (x : Row V) (rows : List (Row V)) → StandInOrder rows → find test rows ≡ Some x → x.number ≡ number
      → AllByRecursion (λ r. is_numbered number r ≡ true → test r ≡ true) rows
  numbered_pass test number x [] order there is = tt
  numbered_pass test number x (r ∷ rows) order there is = by (test r) refl there (λ behind. numbered_pass test number x rows order.1 behind is)
    where
      same : (a b : Row V) → Some a ≡ Some b → a ≡ b
      same a b h = cc

      by : (b : Bool) → test r ≡ b → cond b (Some r) (find test rows) ≡ Some x → (find test rows ≡ Some x → AllByRecursion (λ r. is_numbered number r ≡ true → test r ≡ true) rows)
          → (is_numbered number r ≡ true → test r ≡ true) × AllByRecursion (λ r. is_numbered number r ≡ true → test r ≡ true) rows
      by true passes here rest = (
        (λ _. passes),
        all_weaken (λ s. r.number < s.number) (λ s. is_numbered number s ≡ true → test s ≡ true)
            (λ s more yes. absurd (omega (arith, more, eqb-true s.number number yes, ap (λ (r : Row V). r.number) (same r x here), is))) rows order.0,
      )
      by false fails behind rest = (
        (λ yes. absurd (omega (arith, eqb-true r.number number yes, (all_found (λ s. r.number < s.number) test rows x order.0 behind).0, is))),
        rest behind,
      )

  pub one_less : (test : Row V → Bool) (number : ℕ) (rows : List (Row V)) → Some number ≡ option_map (λ r. r.number) (find test rows) → length (without (is_numbered number) rows) < length rows
  one_less test number rows is =
      let read = read_of (λ (r : Row V). r.number) (find test rows) number is in
      fewer (is_numbered number) rows (passing test (is_numbered number) rows read.element read.there (eq-eqb read.element.number number read.is))

  pub one_without : (test : Row V → Bool) (number : ℕ) (rows : List (Row V)) → StandInOrder rows → Some number ≡ option_map (λ r. r.number) (find test rows)
      → without test (without (is_numbered number) rows) ≡ without test rows
  one_without test number rows order is =
      let read = read_of (λ (r : Row V). r.number) (find test rows) number is in
      still_without test (is_numbered number) rows (numbered_pass test number read.element rows order read.there read.is)

  -- the rows that pass a test of their values, of the client of the first of these
  module _ (test : V → Bool) (client_of : V → ℕ) (client : ℕ) (rows : List (Row V)) where
    abbrev passes : Row V → Bool
    passes r = test r.value

    pub some_less : AllByRecursion (λ r. r.client ≡ client_of r.value) rows → Some client ≡ option_map (λ r. client_of r.value) (find passes rows)
        → length (without (is_of_client client test) rows) < length rows
    some_less own is =
        let read = read_of (λ (r : Row V). client_of r.value) (find passes rows) client is in
        let found = all_found (λ r. r.client ≡ client_of r.value) passes rows read.element own read.there in
        fewer (is_of_client client test) rows
        (passing passes (is_of_client client test) rows read.element read.there
        (and_from (read.element.client == client) (test read.element.value) (eq-eqb read.element.client client (found.0 ∙ read.is)) found.1))

    pub some_without : without passes (without (is_of_client client test) rows) ≡ without passes rows
    some_without = still_without passes (is_of_client client test) rows (each rows)
      where
        each : (rows : List (Row V)) → AllByRecursion (λ r. is_of_client client test r ≡ true → passes r ≡ true) rows
        each [] = tt
        each (r ∷ rows) = ((λ both. (and_parts (r.client == client) (test r.value) both).1), each rows)

  -- no row is left that passes
  pub all_gone : (test : Row V → Bool) (rows : List (Row V)) → find test rows ≡ None → rows ≡ without test rows
  all_gone test rows none = sym (drop_none test rows (none_passes test rows none))
