-- Sums over lists, and how often a number is in a list.
use Rattle.std.proofs.Common.{◌≡◌, inl, inr, ℕ, zero, suc, Bool, true, false, cond, List, [], ◌∷◌, ◌++◌, map, filter, length, refl, sym, ap, arith}
use Rattle.std.specs.Prelude.{◌+◌, ◌≤◌, ◌<◌, ◌==◌, flat_map, replicate}
use Rattle.std.specs.List.{AllByRecursion, IsDistinct}
use Rattle.std.proofs.lemmas.Bool.{cases_Bool, cond_both, eqb-true, eq-eqb}

abbrev pub sum_of : {X : Type 0} → (X → ℕ) → List X → ℕ
sum_of w [] = 0
sum_of w (x ∷ xs) = w x + sum_of w xs

-- over all lists of a list
abbrev pub sum_of_all : {X : Type 0} → (X → ℕ) → List (List X) → ℕ
sum_of_all w [] = 0
sum_of_all w (xs ∷ more) = sum_of w xs + sum_of_all w more

module _ {X : Type 0} (w : X → ℕ) where
  pub sum_append : (xs ys : List X) → sum_of w (xs ++ ys) ≡ sum_of w xs + sum_of w ys
  sum_append [] ys = omega arith
  sum_append (x ∷ xs) ys = omega (arith, sum_append xs ys)

  pub sum_push : (xs : List X) (x : X) → sum_of w (xs ++ x ∷ []) ≡ sum_of w xs + w x
  sum_push [] x = omega arith
  sum_push (y ∷ xs) x = omega (arith, sum_push xs x)

  pub sum_filter : (p : X → Bool) (xs : List X) → sum_of w (filter p xs) ≤ sum_of w xs
  sum_filter p [] = omega arith
  sum_filter p (x ∷ xs) =
      let rest : sum_of w (filter p xs) ≤ sum_of w xs = sum_filter p xs in
      cond_both (p x) (x ∷ filter p xs) (filter p xs) (λ ys. sum_of w ys ≤ w x + sum_of w xs) (λ _. omega arith) (λ _. omega arith)

  pub sum_map : (f : X → X) → ((x : X) → w (f x) ≡ w x) → (xs : List X) → sum_of w (map f xs) ≡ sum_of w xs
  sum_map f same [] = refl
  sum_map f same (x ∷ xs) = omega (arith, same x, sum_map f same xs)

  -- a change of each list that adds nothing
  pub sum_all_map : (change : List X → List X) → ((xs : List X) → sum_of w (change xs) ≤ sum_of w xs) → (lists : List (List X)) → sum_of_all w (map change lists) ≤ sum_of_all w lists
  sum_all_map change less [] = omega arith
  sum_all_map change less (xs ∷ lists) = omega (arith, less xs, sum_all_map change less lists)

  pub sum_all_none : (n : ℕ) → sum_of_all w (replicate n []) ≡ 0
  sum_all_none zero = refl
  sum_all_none (suc n) = omega (arith, sum_all_none n)

pub sum_mapped : {X : Type 0} (w : ℕ → ℕ) (g : X → ℕ) (xs : List X) → sum_of w (map g xs) ≡ sum_of (λ x. w (g x)) xs
sum_mapped w g [] = refl
sum_mapped w g (x ∷ xs) = omega (arith, sum_mapped w g xs)

-- the sum over the numbers of the elements of all lists
pub sum_flat : {X : Type 0} (w : ℕ → ℕ) (g : X → ℕ) (lists : List (List X)) → sum_of w (flat_map (map g) lists) ≡ sum_of_all (λ x. w (g x)) lists
sum_flat w g [] = refl
sum_flat w g (xs ∷ lists) = omega (arith, sum_append w (map g xs) (flat_map (map g) lists), sum_mapped w g xs, sum_flat w g lists)

pub sum_ones : {X : Type 0} (xs : List X) → sum_of (λ x. 1) xs ≡ length xs
sum_ones [] = refl
sum_ones (x ∷ xs) = omega (arith, sum_ones xs)

-- How many there are.

pub as_many : {X : Type 0} (f : X → X) (xs : List X) → length (map f xs) ≡ length xs
as_many f [] = refl
as_many f (x ∷ xs) = omega (arith, as_many f xs)

pub fewer : {X : Type 0} (p : X → Bool) (xs : List X) → length (filter p xs) ≤ length xs
fewer p [] = omega arith
fewer p (x ∷ xs) =
    let rest : length (filter p xs) ≤ length xs = fewer p xs in
    cond_both (p x) (x ∷ filter p xs) (filter p xs) (λ ys. length ys ≤ length (x ∷ xs)) (λ _. omega arith) (λ _. omega arith)

pub one_more : {X : Type 0} (xs : List X) (x : X) → length (xs ++ x ∷ []) ≡ length xs + 1
one_more [] x = omega arith
one_more (y ∷ xs) x = omega (arith, one_more xs x)

-- where there is a place for one that may come
pub still_within : (comes : Bool) (before later limit : ℕ) → later ≤ before + cond comes 1 0 → (comes ≡ true → before < limit) → before ≤ limit → later ≤ limit
still_within true before later limit grows place below =
    let free : before < limit = place refl in
    omega arith
still_within false before later limit grows place below = omega arith

-- How often a number is there.

-- 1 for this number, and 0 for any other
abbrev pub is_one : ℕ → ℕ → ℕ
is_one n m = cond (m == n) 1 0

pub is_one_itself : (n : ℕ) → is_one n n ≡ 1
is_one_itself n = ap (λ b. cond b 1 0) (eq-eqb n n refl)

apart : (n m : ℕ) → is_one n m ≤ 0 → (n == m) ≡ false
apart n m h = elim (cases_Bool (n == m)) [
  | inl same ↦
      let one : is_one n m ≡ 1 = ap (λ b. cond b 1 0) (eq-eqb m n (sym (eqb-true n m same))) in
      absurd (omega arith)
  | inr other ↦ other
]

absent : (n : ℕ) (xs : List ℕ) → sum_of (is_one n) xs ≤ 0 → AllByRecursion (λ m. (n == m) ≡ false) xs
absent n [] h = tt
absent n (m ∷ xs) h = (apart n m (omega arith), absent n xs (omega arith))

-- Numbers of which each is there once at most are distinct.
pub distinct_from_once : (xs : List ℕ) → ((n : ℕ) → sum_of (is_one n) xs ≤ 1) → IsDistinct (λ a b. a == b) xs
unfolding IsDistinct
distinct_from_once [] once = tt
distinct_from_once (x ∷ xs) once =
    (absent x xs (omega (arith, once x, is_one_itself x)), distinct_from_once xs (λ n. omega (arith, once n)))

-- what holds of each number that is there
pub all_from_count : (P : ℕ → Type 0) (xs : List ℕ) → ((n : ℕ) → 0 < sum_of (is_one n) xs → P n) → AllByRecursion P xs
all_from_count P [] holds = tt
all_from_count P (x ∷ xs) holds =
    (holds x (omega (arith, is_one_itself x)), all_from_count P xs (λ n some. holds n (omega (arith, some))))

-- A number that is there `count` times, where numbers up to `last` were given, each once: it is there once at most, and it
-- is one of those that were given.
pub record IsOnce (last n count : ℕ) : Type 0 where
  pub once : count ≤ 1
  pub least : 0 < count → 1 ≤ n
  pub most : 0 < count → n ≤ last

pub once_never : (last n count : ℕ) → count ≡ 0 → IsOnce last n count
once_never last n count none = record { once = omega arith; least = λ some. omega arith; most = λ some. omega arith }

pub once_less : (last n count fewer : ℕ) → fewer ≤ count → IsOnce last n count → IsOnce last n fewer
once_less last n count fewer less h = record {
  once = omega (arith, h.once);
  least = λ some. h.least (omega arith);
  most = λ some. h.most (omega arith);
}

-- the next number is given
pub once_given : (last n count more : ℕ) → more ≤ count + is_one n (last + 1) → IsOnce last n count → IsOnce (last + 1) n more
once_given last n count more grows h = elim (cases_Bool (last + 1 == n)) [
  | inl same ↦
      let equal : last + 1 ≡ n = eqb-true (last + 1) n same in
      let one : is_one n (last + 1) ≡ 1 = ap (λ b. cond b 1 0) same in
      let fresh : 0 < count → ⊥ = λ some. omega (arith, h.most some) in
      let none : count ≡ 0 = nothing count fresh in
      record { once = omega arith; least = λ some. omega arith; most = λ some. omega arith }
  | inr other ↦
      let none : is_one n (last + 1) ≡ 0 = ap (λ b. cond b 1 0) other in
      record {
        once = omega (arith, h.once);
        least = λ some. h.least (omega arith);
        most = λ some. let below : n ≤ last = h.most (omega arith) in omega arith;
      }
]
  where
    nothing : (c : ℕ) → (0 < c → ⊥) → c ≡ 0
    nothing zero none = refl
    nothing (suc c) none = absurd (none (omega arith))
