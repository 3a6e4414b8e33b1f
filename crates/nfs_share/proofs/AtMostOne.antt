-- Tests that at most one element of a list passes.
use Rattle.std.proofs.Common.{◌≡◌, ◌+◌, Bool, true, false, not, cond, ◌&&◌, ◌||◌, List, [], ◌∷◌, length, filter, find, map, is_some, Option, Some, None, refl, sym, ap, subst, ◌∙◌, arith}
use Rattle.std.specs.List.{AllByRecursion, list_any}
use Rattle.std.specs.Borrow.{Bor}
use Rattle.std.specs.Option.{option_copied}
use Rattle.std.proofs.lemmas.Map.Entries.{option_filter}
use Rattle.nfs_rows.specs.Rows.{StandSo}
use Rattle.nfs_rows.proofs.Each.{all_weaken, drop_none, find_none}

pub same_some : {X : Type 0} → (a b : X) → Some a ≡ Some b → a ≡ b
same_some a b is = cc

pub not_false : true ≡ false → ⊥
not_false h = cc

and_no : (b : Bool) → (b && false) ≡ false
and_no true = refl
and_no false = refl

module _ {X : Type 0} where
  pub so_weaken : (R S : X → X → Type 0) → ((x y : X) → R x y → S x y) → (xs : List X) → StandSo R xs → StandSo S xs
  so_weaken R S weaken [] h = tt
  so_weaken R S weaken (x ∷ xs) h = (all_weaken (R x) (S x) (weaken x) xs h.0, so_weaken R S weaken xs h.1)

  all_change : (R : X → Type 0) (test : X → Bool) (change : X → X) → ((x : X) → R x → R (change x)) → (xs : List X) → AllByRecursion R xs
      → AllByRecursion R (map (λ x. cond (test x) (change x) x) xs)
  all_change R test change keeps [] h = tt
  all_change R test change keeps (x ∷ xs) h = (by (test x), all_change R test change keeps xs h.1)
    where
      by : (b : Bool) → R (cond b (change x) x)
      by true = keeps x h.0
      by false = h.0

  -- a change that keeps how elements stand to each other
  pub so_change : (R : X → X → Type 0) (test : X → Bool) (change : X → X) → ((x y : X) → R x y → R (change x) y) → ((x y : X) → R x y → R x (change y)) → (xs : List X) → StandSo R xs
      → StandSo R (map (λ x. cond (test x) (change x) x) xs)
  so_change R test change left right [] h = tt
  so_change R test change left right (x ∷ xs) h =
      (by (test x) (all_change (R x) test change (right x) xs h.0), so_change R test change left right xs h.1)
    where
      changed : List X
      changed = map (λ x. cond (test x) (change x) x) xs

      by : (b : Bool) → AllByRecursion (R x) changed → AllByRecursion (R (cond b (change x) x)) changed
      by true all = all_weaken (R x) (R (change x)) (left x) changed all
      by false all = all

  pub all_found : (P : X → Type 0) (test : X → Bool) (xs : List X) (x : X) → AllByRecursion P xs → Some x ≡ find test xs → P x × (test x ≡ true)
  all_found P test [] x h found = absurd (cc)
  all_found P test (y ∷ xs) x h found = by (test y) refl found (λ there. all_found P test xs x h.1 there)
    where
      by : (b : Bool) → test y ≡ b → Some x ≡ cond b (Some y) (find test xs) → (Some x ≡ find test xs → P x × (test x ≡ true)) → P x × (test x ≡ true)
      by true passes is rest = subst (λ z. P z × (test z ≡ true)) (sym (same_some x y is)) (h.0, passes)
      by false fails is rest = rest is

  pub none_passes : (test : X → Bool) (xs : List X) → None ≡ find test xs → AllByRecursion (λ x. test x ≡ false) xs
  none_passes test [] none = tt
  none_passes test (x ∷ xs) none = by (test x) refl none (λ behind. none_passes test xs behind)
    where
      by : (b : Bool) → test x ≡ b → None ≡ cond b (Some x) (find test xs) → (None ≡ find test xs → AllByRecursion (λ x. test x ≡ false) xs) → AllByRecursion (λ x. test x ≡ false) (x ∷ xs)
      by true passes is rest = absurd (cc)
      by false fails is rest = (fails, rest is)

  pub some_or_any : (test : X → Bool) (xs : List X) → is_some (find test xs) ≡ list_any test xs
  some_or_any test [] = refl
  some_or_any test (x ∷ xs) = by (test x) (some_or_any test xs)
    where
      by : (b : Bool) → is_some (find test xs) ≡ list_any test xs → is_some (cond b (Some x) (find test xs)) ≡ (b || list_any test xs)
      by true rest = refl
      by false rest = rest

  pub copied_some : (found : Option (Bor X)) → is_some found ≡ is_some (option_copied found)
  copied_some None = refl
  copied_some (Some x) = refl

  -- at most one element passes
  abbrev pub AtMostOne : (X → Bool) → List X → Type 0
  AtMostOne test xs = StandSo (λ x y. test x ≡ true → test y ≡ false) xs

  pub others_fail : (test : X → Bool) (x : X) (xs : List X) → AllByRecursion (λ y. test x ≡ true → test y ≡ false) xs → test x ≡ true → AllByRecursion (λ y. test y ≡ false) xs
  others_fail test x xs few passes = all_weaken (λ y. test x ≡ true → test y ≡ false) (λ y. test y ≡ false) (λ y leads. leads passes) xs few

  both_fail : (one other : X → Bool) (xs : List X) → AllByRecursion (λ x. other x ≡ false) xs → AllByRecursion (λ x. one x ≡ false) xs → AllByRecursion (λ x. other x ≡ one x) xs
  both_fail one other [] h k = tt
  both_fail one other (x ∷ xs) h k = (h.0 ∙ sym k.0, both_fail one other xs h.1 k.1)

  -- The one that passes a test is the one that passes another.
  pub alone : (one other : X → Bool) (xs : List X) (x : X) → AtMostOne one xs → AtMostOne other xs → Some x ≡ find one xs → other x ≡ true
      → AllByRecursion (λ y. other y ≡ one y) xs
  alone one other [] x few fewer found is = tt
  alone one other (y ∷ xs) x few fewer found is = by (one y) refl found (λ there. alone one other xs x few.1 fewer.1 there is)
    where
      head_fails : (b : Bool) → other y ≡ b → Some x ≡ find one xs → b ≡ false
      head_fails false fails there = refl
      head_fails true passes there =
          absurd (not_false (sym is ∙ (all_found (λ z. other z ≡ false) one xs x (others_fail other y xs fewer.0 passes) there).0))

      by : (b : Bool) → one y ≡ b → Some x ≡ cond b (Some y) (find one xs) → (Some x ≡ find one xs → AllByRecursion (λ z. other z ≡ one z) xs) → AllByRecursion (λ z. other z ≡ one z) (y ∷ xs)
      by true passes here rest =
          let it : other y ≡ true = subst (λ z. other z ≡ true) (same_some x y here) is in
          (it ∙ sym passes, both_fail one other xs (others_fail other y xs fewer.0 it) (others_fail one y xs few.0 passes))
      by false fails there rest = (head_fails (other y) refl there ∙ sym fails, rest there)

  pub find_alike : (one other : X → Bool) (xs : List X) → AllByRecursion (λ x. other x ≡ one x) xs → find other xs ≡ find one xs
  find_alike one other [] h = refl
  find_alike one other (x ∷ xs) h = λ i. cond (h.0 i) (Some x) (find_alike one other xs h.1 i)

  pub left_alike : (one other : X → Bool) (xs : List X) → AllByRecursion (λ x. other x ≡ one x) xs → filter (λ x. not (other x)) xs ≡ filter (λ x. not (one x)) xs
  left_alike one other [] h = refl
  left_alike one other (x ∷ xs) h = λ i. cond (not (h.0 i)) (x ∷ left_alike one other xs h.1 i) (left_alike one other xs h.1 i)

  -- The one that passes both is the one that passes the second, if it passes the first.
  pub both_found : (first second : X → Bool) (xs : List X) → AtMostOne second xs → find (λ x. first x && second x) xs ≡ option_filter first (find second xs)
  both_found first second [] few = refl
  both_found first second (x ∷ xs) few = by (first x) (second x) refl refl (both_found first second xs few.1)
    where
      none_behind : second x ≡ true → find (λ y. first y && second y) xs ≡ None
      none_behind passes =
          find_none (λ y. first y && second y) xs
          (all_weaken (λ y. second y ≡ false) (λ y. (first y && second y) ≡ false) (λ y fails. ap (λ b. first y && b) fails ∙ and_no (first y)) xs (others_fail second x xs few.0 passes))

      by : (a b : Bool) → first x ≡ a → second x ≡ b → find (λ x. first x && second x) xs ≡ option_filter first (find second xs)
          → cond (a && b) (Some x) (find (λ y. first y && second y) xs) ≡ option_filter first (cond b (Some x) (find second xs))
      by a false is fails rest = ap (λ c. cond c (Some x) (find (λ y. first y && second y) xs)) (and_no a) ∙ rest
      by true true is passes rest = sym (ap (λ b. cond b (Some x) None) is)
      by false true is passes rest = none_behind passes ∙ sym (ap (λ b. cond b (Some x) None) is)

  -- without the one that passes there is one less
  pub one_less : (test : X → Bool) (xs : List X) (x : X) → AtMostOne test xs → Some x ≡ find test xs → length (filter (λ y. not (test y)) xs) + 1 ≡ length xs
  one_less test [] x few found = absurd (cc)
  one_less test (y ∷ xs) x few found = by (test y) refl found (λ there. one_less test xs x few.1 there)
    where
      left : List X
      left = filter (λ y. not (test y)) xs

      by : (b : Bool) → test y ≡ b → Some x ≡ cond b (Some y) (find test xs) → (Some x ≡ find test xs → length left + 1 ≡ length xs) → length (cond (not b) (y ∷ left) left) + 1 ≡ length (y ∷ xs)
      by true passes here rest = omega (arith, ap length (drop_none test xs (others_fail test y xs few.0 passes)))
      by false fails there rest = omega (arith, rest there)
