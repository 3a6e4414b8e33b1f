-- A list that is kept as two: its first elements, and the others in the other order.
use Rattle.std.proofs.Common.{◌≡◌, ℕ, zero, suc, ◌+◌, ◌-◌, ◌<◌, ◌≤◌, Bool, Some, None, List, [], ◌∷◌, ◌++◌, length, reverse, drop, take, sym, ◌∙◌, ap, refl, append_assoc, take-append-drop, arith}
use Rattle.std.specs.Prelude.{find}
use Rattle.nfs_ranges.proofs.Elements.{find_append, find_past, take_most}
use Rattle.std.proofs.lemmas.List.{length-append, length-drop, length-reverse, reverse-append, reverse-reverse}

module _ {X : Type 0} where
  -- some go over from the first list to the second, and from the second to the first
  pub moved_back : (xs ys : List X) (n : ℕ) → take n xs ++ reverse (ys ++ reverse (drop n xs)) ≡ xs ++ reverse ys
  moved_back xs ys n =
      ap (λ zs. take n xs ++ zs) (reverse-append ys (reverse (drop n xs)))
      ∙ ap (λ zs. take n xs ++ (zs ++ reverse ys)) (reverse-reverse (drop n xs))
      ∙ sym (append_assoc (take n xs) (drop n xs) (reverse ys))
      ∙ ap (λ zs. zs ++ reverse ys) (take-append-drop n xs)

  pub moved_on : (xs ys : List X) (n : ℕ) → (xs ++ reverse (drop n ys)) ++ reverse (take n ys) ≡ xs ++ reverse ys
  moved_on xs ys n =
      append_assoc xs (reverse (drop n ys)) (reverse (take n ys))
      ∙ ap (λ zs. xs ++ zs) (sym (reverse-append (take n ys) (drop n ys)))
      ∙ ap (λ zs. xs ++ reverse zs) (take-append-drop n ys)

  take_front : (xs ys : List X) (n : ℕ) → length xs ≡ n → take n (xs ++ ys) ≡ xs
  take_front [] ys zero is = refl
  take_front [] ys (suc n) is = absurd (omega (arith, is))
  take_front (x ∷ xs) ys zero is = absurd (omega (arith, is))
  take_front (x ∷ xs) ys (suc n) is = ap (λ zs. x ∷ zs) (take_front xs ys n (omega (arith, is)))

  drop_front : (xs ys : List X) (n : ℕ) → length xs ≡ n → drop n (xs ++ ys) ≡ ys
  drop_front [] ys zero is = refl
  drop_front [] ys (suc n) is = absurd (omega (arith, is))
  drop_front (x ∷ xs) ys zero is = absurd (omega (arith, is))
  drop_front (x ∷ xs) ys (suc n) is = drop_front xs ys n (omega (arith, is))

  -- the first of the whole list, and what the second list still has when its last ones are cut off
  pub first_part : (xs ys all : List X) (n : ℕ) → xs ++ reverse ys ≡ all → length xs ≡ n → take n all ≡ xs
  first_part xs ys all n whole is = sym (ap (take n) whole) ∙ take_front xs (reverse ys) n is

  pub last_part : (xs ys all : List X) (n stop left : ℕ) → xs ++ reverse ys ≡ all → length xs ≡ n → n ≤ stop
      → stop ≤ length all → left ≡ length all - stop → drop stop all ≡ reverse (take left ys)
  last_part xs ys all n stop left whole is low high rest =
      let count : length all ≡ length xs + length ys =
      sym (ap length whole) ∙ length-append xs (reverse ys) ∙ ap (λ k. length xs + k) (length-reverse ys) in
      let front : length (xs ++ reverse (drop left ys)) ≡ stop =
      length-append xs (reverse (drop left ys))
      ∙ omega (arith, length-reverse (drop left ys), length-drop left ys, count, is, low, high, rest) in
      sym (ap (drop stop) (moved_on xs ys left ∙ whole))
      ∙ drop_front (xs ++ reverse (drop left ys)) (reverse (take left ys)) stop front

  -- the elements from a place on, in the first list and in the second
  drop_within : (xs ys : List X) (n : ℕ) → n ≤ length xs → drop n (xs ++ ys) ≡ drop n xs ++ ys
  drop_within [] ys zero low = refl
  drop_within [] ys (suc n) low = absurd (omega (arith, low))
  drop_within (x ∷ xs) ys zero low = refl
  drop_within (x ∷ xs) ys (suc n) low = drop_within xs ys n (omega (arith, low))

  drop_beyond : (xs ys : List X) (n : ℕ) → length xs ≤ n → n ≤ length (xs ++ reverse ys)
      → drop n (xs ++ reverse ys) ≡ reverse (take (length ys - (n - length xs)) ys)
  drop_beyond xs ys n low high =
      let count = length-append xs (reverse ys) in
      last_part xs ys (xs ++ reverse ys) (length xs) n (length ys - (n - length xs)) refl refl low high
      (omega (arith, count, length-reverse ys, low, high))

  whole_rest : (xs : List X) (n : ℕ) → take (length xs - n) (drop n xs) ≡ drop n xs
  whole_rest xs n = take_most (drop n xs) (length xs - n) (omega (arith, length-drop n xs))

  -- what is found from a place on is found in the first list, or else in the second from its end on
  pub find_first : (test : X → Bool) (xs ys shown : List X) (n : ℕ) (x : X) → shown ≡ xs → n < length shown
      → find test (take (length shown - n) (drop n shown)) ≡ Some x → Some x ≡ find test (drop n (xs ++ reverse ys))
  find_first test xs ys shown n x same less found =
      sym (ap (λ zs. find test (drop n (zs ++ reverse ys))) (sym same)
      ∙ ap (find test) (drop_within shown (reverse ys) n (omega (arith, less)))
      ∙ find_append test (drop n shown) (reverse ys) x (sym (ap (find test) (whole_rest shown n)) ∙ found))

  pub find_second : (test : X → Bool) (xs ys shown seen : List X) (n count : ℕ) → shown ≡ xs → seen ≡ ys → n < length shown
      → count ≡ length seen
      → find test (take (length shown - n) (drop n shown)) ≡ None
      → find test (reverse (take count seen)) ≡ find test (drop n (xs ++ reverse ys))
  find_second test xs ys shown seen n count same alike less all none =
      ap (λ zs. find test (reverse zs)) (take_most seen count (omega (arith, all)))
      ∙ sym (ap (λ zs. find test (drop n (zs ++ reverse ys))) (sym same)
      ∙ ap (λ zs. find test (drop n (shown ++ reverse zs))) (sym alike)
      ∙ ap (find test) (drop_within shown (reverse seen) n (omega (arith, less)))
      ∙ find_past test (drop n shown) (reverse seen) (sym (ap (find test) (whole_rest shown n)) ∙ none))

  pub find_last : (test : X → Bool) (xs ys seen : List X) (n count : ℕ) → seen ≡ ys → length xs ≤ n
      → n ≤ length (xs ++ reverse ys) → count ≡ length seen - (n - length xs)
      → find test (reverse (take count seen)) ≡ find test (drop n (xs ++ reverse ys))
  find_last test xs ys seen n count alike low high left =
      ap (λ zs. find test (reverse (take count zs))) alike
      ∙ ap (λ k. find test (reverse (take k ys))) (left ∙ ap (λ zs. length zs - (n - length xs)) alike)
      ∙ sym (ap (find test) (drop_beyond xs ys n low high))
