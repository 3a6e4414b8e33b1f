-- Lists whose keys rise, and what of them is above a number.
use Rattle.std.proofs.Common.{◌≡◌, ◌∙◌, ℕ, ◌<◌, ◌≤◌, zero, suc, Bool, true, false, cond, List, [], ◌∷◌, length, get_or, drop, refl, sym, ap, inl, inr, arith}
use Rattle.std.specs.Prelude.{◌==◌, filter, nat_lt}
use Rattle.std.specs.List.{AllByRecursion}
use Rattle.std.proofs.lemmas.Bool.{cases_Bool, cond_both, lt-ltb, le-ltb, ltb-true, ltb-false}
use Rattle.std.proofs.lemmas.List.Elements.{filter_passes}
use Rattle.nfs_tree.specs.Children.{children_after, children_from, children_of, cookie_of}
use Rattle.nfs_tree.specs.declared.node.Node.{Node}

-- each number's key is above those of the ones before it
abbrev pub IsRising : (ℕ → ℕ) → List ℕ → Type 0
IsRising key [] = Unit {0}
IsRising key (x ∷ xs) = AllByRecursion (λ y. key x < key y) xs × IsRising key xs

-- a filter keeps what all are
kept_above : (test : ℕ → Bool) (key : ℕ → ℕ) (a : ℕ) (xs : List ℕ) → AllByRecursion (λ y. a < key y) xs → AllByRecursion (λ y. a < key y) (filter test xs)
kept_above test key a [] all = tt
kept_above test key a (x ∷ xs) all =
    elim (test x) as (λ b. AllByRecursion (λ y. a < key y) (cond b (x ∷ filter test xs) (filter test xs))) [
      | true ↦ (all.0, kept_above test key a xs all.1)
      | false ↦ kept_above test key a xs all.1
    ]

pub kept_rising : (test : ℕ → Bool) (key : ℕ → ℕ) (xs : List ℕ) → IsRising key xs → IsRising key (filter test xs)
kept_rising test key [] rising = tt
kept_rising test key (x ∷ xs) rising =
    elim (test x) as (λ b. IsRising key (cond b (x ∷ filter test xs) (filter test xs))) [
      | true ↦ (kept_above test key (key x) xs rising.0, kept_rising test key xs rising.1)
      | false ↦ kept_rising test key xs rising.1
    ]

-- of those above a number all are above it
pub all_above : (key : ℕ → ℕ) (a : ℕ) (xs : List ℕ) → AllByRecursion (λ y. a < key y) xs → filter (λ x. nat_lt a (key x)) xs ≡ xs
all_above key a [] all = refl
all_above key a (x ∷ xs) all =
    let first : nat_lt a (key x) ≡ true = lt-ltb a (key x) all.0 in
    rw first (ap (λ rest. x ∷ rest) (all_above key a xs all.1))

-- those above the one at a place are those behind it
above_place : (key : ℕ → ℕ) (xs : List ℕ) (i d : ℕ) → IsRising key xs → i < length xs → filter (λ x. nat_lt (key (get_or xs i d)) (key x)) xs ≡ drop (suc i) xs
above_place key [] i d rising within = absurd (omega arith)
above_place key (x ∷ xs) zero d rising within =
    let first : nat_lt (key x) (key x) ≡ false = le-ltb (key x) (key x) (omega arith) in
    rw first (all_above key (key x) xs rising.0)
above_place key (x ∷ xs) (suc i) d rising within =
    let inner : i < length xs = omega arith in
    let first : nat_lt (key (get_or xs i d)) (key x) ≡ false = le-ltb (key (get_or xs i d)) (key x) (omega (arith, at_above (key x) xs i d rising.0 inner)) in
    rw first (above_place key xs i d rising.1 inner)
  where
    at_above : (a : ℕ) (xs : List ℕ) (i d : ℕ) → AllByRecursion (λ y. a < key y) xs → i < length xs → a < key (get_or xs i d)
    at_above a [] i d all within = absurd (omega arith)
    at_above a (y ∷ ys) zero d all within = all.0
    at_above a (y ∷ ys) (suc i) d all within = at_above a ys i d all.1 (omega arith)

-- those above a greater number are those above it among those above the lesser
above_twice : (key : ℕ → ℕ) (a b : ℕ) (xs : List ℕ) → a ≤ b → filter (λ x. nat_lt b (key x)) (filter (λ x. nat_lt a (key x)) xs) ≡ filter (λ x. nat_lt b (key x)) xs
above_twice key a b [] less = refl
above_twice key a b (x ∷ xs) less =
    elim (cases_Bool (nat_lt a (key x))) [
      | inl above ↦ rw above (ap (λ rest. cond (nat_lt b (key x)) (x ∷ rest) rest) (above_twice key a b xs less))
      | inr below ↦ (let too : nat_lt b (key x) ≡ false = le-ltb b (key x) (omega (arith, ltb-false a (key x) below)) in
          rw below (rw too (above_twice key a b xs less)))
    ]

-- so those above one of those above a number are the ones behind it
pub above_next : (key : ℕ → ℕ) (xs : List ℕ) (a i d : ℕ) → IsRising key xs → i < length (filter (λ x. nat_lt a (key x)) xs)
    → filter (λ x. nat_lt (key (get_or (filter (λ x. nat_lt a (key x)) xs) i d)) (key x)) xs ≡ drop (suc i) (filter (λ x. nat_lt a (key x)) xs)
above_next key xs a i d rising within =
    let kept = filter (λ (x : ℕ). nat_lt a (key x)) xs in
    let place : ℕ = key (get_or kept i d) in
    let more : a < place = ltb-true a place (filter_passes (λ x. nat_lt a (key x)) xs i d within) in
    sym (above_twice key a place xs (omega arith))
    ∙ above_place key kept i d (kept_rising (λ x. nat_lt a (key x)) key xs rising) within

-- The children of a directory rise.
children_above : (less number : ℕ) (nodes : List Node) (directory : ℕ) → less < number → AllByRecursion (λ child. cookie_of less < cookie_of child) (children_from number nodes directory)
children_above less number [] directory below = tt
children_above less number (node ∷ nodes) directory below =
    let more = children_above less (suc number) nodes directory (omega arith) in
    cond_both (node.parent == directory) (number ∷ children_from (suc number) nodes directory) (children_from (suc number) nodes directory)
    (AllByRecursion (λ child. cookie_of less < cookie_of child))
    (λ _. (omega arith, more)) (λ _. more)

children_rise : (number : ℕ) (nodes : List Node) (directory : ℕ) → IsRising cookie_of (children_from number nodes directory)
children_rise number [] directory = tt
children_rise number (node ∷ nodes) directory =
    let more = children_rise (suc number) nodes directory in
    cond_both (node.parent == directory) (number ∷ children_from (suc number) nodes directory) (children_from (suc number) nodes directory)
    (IsRising cookie_of)
    (λ _. (children_above number (suc number) nodes directory (omega arith), more)) (λ _. more)

pub listing_rises : (nodes : List Node) (directory : ℕ) → IsRising cookie_of (children_of nodes directory)
listing_rises nodes directory = children_rise 1 nodes directory

-- no cookie is 0
above_none : (children : List ℕ) → AllByRecursion (λ child. 0 < cookie_of child) children
above_none [] = tt
above_none (child ∷ children) = (omega arith, above_none children)

pub all_after_none : (nodes : List Node) (directory : ℕ) → children_after nodes directory 0 ≡ children_of nodes directory
all_after_none nodes directory = all_above cookie_of 0 (children_of nodes directory) (above_none (children_of nodes directory))
