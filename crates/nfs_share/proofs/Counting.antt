-- How many elements of a list pass a test.
use Rattle.std.proofs.Common.{◌≡◌, ℕ, suc, ◌+◌, ◌≤◌, Bool, true, false, not, cond, ◌&&◌, ◌||◌, nat_lt, List, [], ◌∷◌, ◌++◌, length, filter, find, map, Some, refl, sym, ap, ◌∙◌, arith}
use Rattle.std.specs.List.{list_any}
use Rattle.std.proofs.lemmas.Bool.{lt-ltb}
use Rattle.nfs_rows.proofs.Each.{change_none, drop_none}
use Rattle.nfs_share.specs.ShareCounts.{how_many}
use Rattle.nfs_share.proofs.AtMostOne.{AtMostOne, not_false, others_fail, same_some}

-- one more, if it is counted
abbrev up : Bool → ℕ → ℕ
up b n = cond b (suc n) n

swap : (a b : Bool) (n : ℕ) → up a (up b n) ≡ up b (up a n)
swap true true n = refl
swap true false n = refl
swap false true n = refl
swap false false n = refl

module _ {X : Type 0} where
  -- the lists have as many that pass, whatever is tested
  abbrev pub SameCounts : List X → List X → Type 0
  SameCounts xs ys = (test : X → Bool) → how_many test xs ≡ how_many test ys

  pub how_many_within : (test : X → Bool) (xs : List X) → how_many test xs ≤ length xs
  how_many_within test [] = omega arith
  how_many_within test (x ∷ xs) = by (test x) (how_many_within test xs)
    where
      by : (b : Bool) → how_many test xs ≤ length xs → up b (how_many test xs) ≤ length (x ∷ xs)
      by true within = omega (arith, within)
      by false within = omega (arith, within)

  -- some pass where one or more pass
  pub some_or_more : (test : X → Bool) (xs : List X) → nat_lt 0 (how_many test xs) ≡ list_any test xs
  some_or_more test [] = refl
  some_or_more test (x ∷ xs) = by (test x) (some_or_more test xs)
    where
      by : (b : Bool) → nat_lt 0 (how_many test xs) ≡ list_any test xs → nat_lt 0 (up b (how_many test xs)) ≡ (b || list_any test xs)
      by true rest = lt-ltb 0 (suc (how_many test xs)) (omega arith)
      by false rest = rest

  -- tests that answer alike
  pub how_many_alike : (test other : X → Bool) → ((x : X) → test x ≡ other x) → (xs : List X) → how_many test xs ≡ how_many other xs
  how_many_alike test other same [] = refl
  how_many_alike test other same (x ∷ xs) = λ i. up (same x i) (how_many_alike test other same xs i)

  pub how_many_less : (test other : X → Bool) → ((x : X) → test x ≡ true → other x ≡ true) → (xs : List X) → how_many test xs ≤ how_many other xs
  how_many_less test other leads [] = omega arith
  how_many_less test other leads (x ∷ xs) = by (test x) (other x) refl refl (how_many_less test other leads xs)
    where
      by : (a b : Bool) → test x ≡ a → other x ≡ b → how_many test xs ≤ how_many other xs → up a (how_many test xs) ≤ up b (how_many other xs)
      by true true is too rest = omega (arith, rest)
      by true false is too rest = absurd (not_false (sym (leads x is) ∙ too))
      by false true is too rest = omega (arith, rest)
      by false false is too rest = omega (arith, rest)

  -- those that pass are those that also pass another test, and those that don't
  pub how_many_split : (other test : X → Bool) (xs : List X) → how_many test xs ≡ how_many (λ x. other x && test x) xs + how_many (λ x. not (other x) && test x) xs
  how_many_split other test [] = refl
  how_many_split other test (x ∷ xs) = by (other x) (test x) (how_many_split other test xs)
    where
      by : (a b : Bool) → how_many test xs ≡ how_many (λ x. other x && test x) xs + how_many (λ x. not (other x) && test x) xs
          → up b (how_many test xs) ≡ (up (a && b) (how_many (λ x. other x && test x) xs)) + (up (not a && b) (how_many (λ x. not (other x) && test x) xs))
      by true true rest = omega (arith, rest)
      by true false rest = omega (arith, rest)
      by false true rest = omega (arith, rest)
      by false false rest = omega (arith, rest)

  pub how_many_left : (other test : X → Bool) (xs : List X) → how_many test (filter (λ x. not (other x)) xs) ≡ how_many (λ x. not (other x) && test x) xs
  how_many_left other test [] = refl
  how_many_left other test (x ∷ xs) = by (other x) (how_many_left other test xs)
    where
      left : List X
      left = filter (λ x. not (other x)) xs

      by : (a : Bool) → how_many test left ≡ how_many (λ x. not (other x) && test x) xs
          → how_many test (cond (not a) (x ∷ left) left) ≡ up (not a && test x) (how_many (λ x. not (other x) && test x) xs)
      by true rest = rest
      by false rest = ap (up (test x)) rest

  -- one at the end counts as one at the front
  pub same_push : (xs : List X) (x : X) → SameCounts (xs ++ x ∷ []) (x ∷ xs)
  same_push [] x test = refl
  same_push (y ∷ xs) x test =
      ap (up (test y)) (same_push xs x test) ∙ swap (test y) (test x) (how_many test xs)

  -- The one that passes a test may be counted apart.
  pub same_apart : (one : X → Bool) (xs : List X) (x : X) → AtMostOne one xs → Some x ≡ find one xs → SameCounts xs (x ∷ filter (λ y. not (one y)) xs)
  same_apart one [] x few found test = absurd (cc)
  same_apart one (y ∷ xs) x few found test = by (one y) refl found (λ there. same_apart one xs x few.1 there test)
    where
      left : List X
      left = filter (λ y. not (one y)) xs

      by : (b : Bool) → one y ≡ b → Some x ≡ cond b (Some y) (find one xs) → (Some x ≡ find one xs → how_many test xs ≡ up (test x) (how_many test left))
          → up (test y) (how_many test xs) ≡ up (test x) (how_many test (cond (not b) (y ∷ left) left))
      by true passes here rest =
          (λ i. up (test (sym (same_some x y here) i)) (how_many test (sym (drop_none one xs (others_fail one y xs few.0 passes)) i)))
      by false fails there rest =
          ap (up (test y)) (rest there) ∙ swap (test y) (test x) (how_many test left)

  -- And so may what it is changed to.
  pub same_change : (one : X → Bool) (change : X → X) (xs : List X) (x : X) → AtMostOne one xs → Some x ≡ find one xs
      → SameCounts (map (λ y. cond (one y) (change y) y) xs) (change x ∷ filter (λ y. not (one y)) xs)
  same_change one change [] x few found test = absurd (cc)
  same_change one change (y ∷ xs) x few found test = by (one y) refl found (λ there. same_change one change xs x few.1 there test)
    where
      left : List X
      left = filter (λ y. not (one y)) xs

      all : List X
      all = map (λ y. cond (one y) (change y) y) xs

      by : (b : Bool) → one y ≡ b → Some x ≡ cond b (Some y) (find one xs) → (Some x ≡ find one xs → how_many test all ≡ up (test (change x)) (how_many test left))
          → up (test (cond b (change y) y)) (how_many test all) ≡ up (test (change x)) (how_many test (cond (not b) (y ∷ left) left))
      by true passes here rest =
          let others = others_fail one y xs few.0 passes in
          (λ i. up (test (change (sym (same_some x y here) i))) (how_many test (change_none one change xs others i)))
          ∙ ap (λ ys. up (test (change x)) (how_many test ys)) (sym (drop_none one xs others))
      by false fails there rest =
          ap (up (test y)) (rest there) ∙ swap (test y) (test (change x)) (how_many test left)

  pub same_map : {Y : Type 0} (seen : X → Y) (xs ys : List X) → ((test : X → Bool) → how_many test xs ≡ how_many test ys) → (test : Y → Bool) → how_many test (map seen xs) ≡ how_many test (map seen ys)
  same_map seen xs ys same test = each xs ∙ same (λ x. test (seen x)) ∙ sym (each ys)
    where
      each : (zs : List X) → how_many test (map seen zs) ≡ how_many (λ x. test (seen x)) zs
      each [] = refl
      each (z ∷ zs) = ap (up (test (seen z))) (each zs)
