-- What is true of each element of a list, and of each with those behind it.
use Rattle.std.proofs.Common.{◌≡◌, ℕ, zero, suc, ◌<◌, Bool, true, false, not, cond, List, [], ◌∷◌, ◌++◌, length, get_or, filter, find, map, Some, None, refl, ap, ◌∙◌, arith}
use Rattle.std.specs.List.{AllByRecursion}
use Rattle.nfs_rows.specs.Rows.{StandSo}

module _ {X : Type 0} where
  pub all_weaken : (P Q : X → Type 0) → ((x : X) → P x → Q x) → (xs : List X) → AllByRecursion P xs → AllByRecursion Q xs
  all_weaken P Q weaken [] h = tt
  all_weaken P Q weaken (x ∷ xs) h = (weaken x h.0, all_weaken P Q weaken xs h.1)

  pub all_both : (P Q R : X → Type 0) → ((x : X) → P x → Q x → R x) → (xs : List X) → AllByRecursion P xs → AllByRecursion Q xs → AllByRecursion R xs
  all_both P Q R leads [] h k = tt
  all_both P Q R leads (x ∷ xs) h k = (leads x h.0 k.0, all_both P Q R leads xs h.1 k.1)

  pub all_from_index : (P : X → Type 0) (xs : List X) → ((k : ℕ) (d : X) → k < length xs → P (get_or xs k d)) → AllByRecursion P xs
  all_from_index P [] h = tt
  all_from_index P (x ∷ xs) h = (h 0 x (omega arith), all_from_index P xs (λ k d below. h (suc k) d (omega (arith, below))))

  pub all_at : (P : X → Type 0) (xs : List X) (k : ℕ) (d : X) → AllByRecursion P xs → k < length xs → P (get_or xs k d)
  all_at P [] k d h below = absurd (omega (arith, below))
  all_at P (x ∷ xs) zero d h below = h.0
  all_at P (x ∷ xs) (suc k) d h below = all_at P xs k d h.1 (omega (arith, below))

  -- what is read at a place is the same with any default
  pub any_default : (xs : List X) (k : ℕ) (d e : X) → k < length xs → get_or xs k d ≡ get_or xs k e
  any_default [] k d e below = absurd (omega (arith, below))
  any_default (x ∷ xs) zero d e below = refl
  any_default (x ∷ xs) (suc k) d e below = any_default xs k d e (omega (arith, below))

  pub all_append : (P : X → Type 0) (xs ys : List X) → AllByRecursion P xs → AllByRecursion P ys → AllByRecursion P (xs ++ ys)
  all_append P [] ys h k = k
  all_append P (x ∷ xs) ys h k = (h.0, all_append P xs ys h.1 k)

  pub all_front : (P : X → Type 0) (xs ys : List X) → AllByRecursion P (xs ++ ys) → AllByRecursion P xs
  all_front P [] ys h = tt
  all_front P (x ∷ xs) ys h = (h.0, all_front P xs ys h.1)

  pub all_back : (P : X → Type 0) (xs ys : List X) → AllByRecursion P (xs ++ ys) → AllByRecursion P ys
  all_back P [] ys h = h
  all_back P (x ∷ xs) ys h = all_back P xs ys h.1

  -- without the one in the middle
  pub all_around : (P : X → Type 0) (xs : List X) (x : X) (ys : List X) → AllByRecursion P (xs ++ x ∷ ys) → AllByRecursion P (xs ++ ys)
  all_around P [] x ys h = h.1
  all_around P (y ∷ xs) x ys h = (h.0, all_around P xs x ys h.1)

  pub all_filter : (P : X → Type 0) (test : X → Bool) (xs : List X) → AllByRecursion P xs → AllByRecursion P (filter test xs)
  all_filter P test [] h = tt
  all_filter P test (x ∷ xs) h = by (test x) (all_filter P test xs h.1)
    where
      by : (b : Bool) → AllByRecursion P (filter test xs) → AllByRecursion P (cond b (x ∷ filter test xs) (filter test xs))
      by true rest = (h.0, rest)
      by false rest = rest

  pub passes_filter : (test : X → Bool) (xs : List X) → AllByRecursion (λ x. test x ≡ true) (filter test xs)
  passes_filter test [] = tt
  passes_filter test (x ∷ xs) = by (test x) refl (passes_filter test xs)
    where
      by : (b : Bool) → test x ≡ b → AllByRecursion (λ x. test x ≡ true) (filter test xs) → AllByRecursion (λ x. test x ≡ true) (cond b (x ∷ filter test xs) (filter test xs))
      by true is rest = (is, rest)
      by false is rest = rest

  -- a filter keeps all where all pass
  pub filter_all : (test : X → Bool) (xs : List X) → AllByRecursion (λ x. test x ≡ true) xs → filter test xs ≡ xs
  filter_all test [] h = refl
  filter_all test (x ∷ xs) h = ap (λ b. cond b (x ∷ filter test xs) (filter test xs)) h.0 ∙ ap (λ rest. x ∷ rest) (filter_all test xs h.1)

  pub find_past : (test : X → Bool) (xs ys : List X) → AllByRecursion (λ x. test x ≡ false) xs → find test (xs ++ ys) ≡ find test ys
  find_past test [] ys h = refl
  find_past test (x ∷ xs) ys h = ap (λ b. cond b (Some x) (find test (xs ++ ys))) h.0 ∙ find_past test xs ys h.1

  pub find_none : (test : X → Bool) (xs : List X) → AllByRecursion (λ x. test x ≡ false) xs → find test xs ≡ None
  find_none test [] h = refl
  find_none test (x ∷ xs) h = ap (λ b. cond b (Some x) (find test xs)) h.0 ∙ find_none test xs h.1

  pub change_none : (test : X → Bool) (change : X → X) (xs : List X) → AllByRecursion (λ x. test x ≡ false) xs → map (λ x. cond (test x) (change x) x) xs ≡ xs
  change_none test change [] h = refl
  change_none test change (x ∷ xs) h = ap (λ b. cond b (change x) x ∷ map (λ x. cond (test x) (change x) x) xs) h.0 ∙ ap (λ rest. x ∷ rest) (change_none test change xs h.1)

  pub drop_none : (test : X → Bool) (xs : List X) → AllByRecursion (λ x. test x ≡ false) xs → filter (λ x. not (test x)) xs ≡ xs
  drop_none test xs h = filter_all (λ x. not (test x)) xs (all_weaken (λ x. test x ≡ false) (λ x. not (test x) ≡ true) (λ x is. ap not is) xs h)

  module _ (R : X → X → Type 0) where
    pub so_filter : (test : X → Bool) (xs : List X) → StandSo R xs → StandSo R (filter test xs)
    so_filter test [] h = tt
    so_filter test (x ∷ xs) h = by (test x) (so_filter test xs h.1)
      where
        by : (b : Bool) → StandSo R (filter test xs) → StandSo R (cond b (x ∷ filter test xs) (filter test xs))
        by true rest = (all_filter (R x) test xs h.0, rest)
        by false rest = rest

    pub so_push : (xs : List X) (x : X) → AllByRecursion (λ y. R y x) xs → StandSo R xs → StandSo R (xs ++ x ∷ [])
    so_push [] x below h = (tt, tt)
    so_push (y ∷ xs) x below h = (all_append (R y) xs (x ∷ []) h.0 (below.0, tt), so_push xs x below.1 h.1)

    pub so_front : (xs ys : List X) → StandSo R (xs ++ ys) → StandSo R xs
    so_front [] ys h = tt
    so_front (x ∷ xs) ys h = (all_front (R x) xs ys h.0, so_front xs ys h.1)

    -- how the one in the middle stands to those before it, and to those behind it
    pub so_before : (xs : List X) (x : X) (ys : List X) → StandSo R (xs ++ x ∷ ys) → AllByRecursion (λ y. R y x) xs
    so_before [] x ys h = tt
    so_before (y ∷ xs) x ys h = ((all_back (R y) xs (x ∷ ys) h.0).0, so_before xs x ys h.1)

    pub so_behind : (xs : List X) (x : X) (ys : List X) → StandSo R (xs ++ x ∷ ys) → AllByRecursion (R x) ys
    so_behind [] x ys h = h.0
    so_behind (y ∷ xs) x ys h = so_behind xs x ys h.1

    pub so_around : (xs : List X) (x : X) (ys : List X) → StandSo R (xs ++ x ∷ ys) → StandSo R (xs ++ ys)
    so_around [] x ys h = h.1
    so_around (y ∷ xs) x ys h = (all_around (R y) xs x ys h.0, so_around xs x ys h.1)

    pub so_at : (xs : List X) (i j : ℕ) (d : X) → StandSo R xs → i < j → j < length xs → R (get_or xs i d) (get_or xs j d)
    so_at [] i j d h less below = absurd (omega (arith, below))
    so_at (x ∷ xs) i zero d h less below = absurd (omega (arith, less))
    so_at (x ∷ xs) zero (suc j) d h less below = all_at (R x) xs j d h.0 (omega (arith, below))
    so_at (x ∷ xs) (suc i) (suc j) d h less below = so_at xs i j d h.1 (omega (arith, less)) (omega (arith, below))
