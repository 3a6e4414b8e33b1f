-- The greatest number that passes a test.
use Rattle.std.proofs.Common.{◌≡◌, ℕ, ◌<◌, ◌≤◌, zero, suc, Bool, true, false, Some, None, refl, sym, ap, subst, inl, inr, arith}
use Rattle.std.proofs.lemmas.Bool.{cases_Bool, cases_eq, both_ways}
use Rattle.nfs_rules.specs.operations.Readdir.{greatest}

-- a number that passes, where none above it does, is the greatest
pub greatest_is : (passes : ℕ → Bool) (n k : ℕ) → k ≤ n → passes k ≡ true → ((m : ℕ) → k < m → m ≤ n → passes m ≡ false) → greatest passes n ≡ Some k
greatest_is passes zero k within holds above =
    let is : k ≡ 0 = omega arith in
    let first : passes 0 ≡ true = subst (λ j. passes j ≡ true) is holds in
    rw first (ap Some (sym is))
greatest_is passes (suc n) k within holds above =
    elim (cases_eq k (suc n)) [
      | inl is ↦ (let first : passes (suc n) ≡ true = subst (λ j. passes j ≡ true) is holds in rw first (ap Some (sym is)))
      | inr other ↦ (let first : passes (suc n) ≡ false = above (suc n) (omega arith) (omega arith) in
          rw first (greatest_is passes n k (omega arith) holds (λ m more less. above m more (omega arith))))
    ]

-- where none passes, there is no greatest
pub greatest_none : (passes : ℕ → Bool) (n : ℕ) → ((m : ℕ) → m ≤ n → passes m ≡ false) → greatest passes n ≡ None
greatest_none passes zero none = let first : passes 0 ≡ false = none 0 (omega arith) in rw first refl
greatest_none passes (suc n) none =
    let first : passes (suc n) ≡ false = none (suc n) (omega arith) in
    rw first (greatest_none passes n (λ m less. none m (omega arith)))

-- There is one that is at least as great as one that passes.
pub greatest_found : (passes : ℕ → Bool) (n k : ℕ) → k ≤ n → passes k ≡ true → (j : ℕ) × (k ≤ j) × (j ≤ n) × (greatest passes n ≡ Some j)
greatest_found passes zero k within holds =
    let is : k ≡ 0 = omega arith in
    let first : passes 0 ≡ true = subst (λ j. passes j ≡ true) is holds in
    (0, omega arith, omega arith, rw first refl)
greatest_found passes (suc n) k within holds =
    elim (cases_Bool (passes (suc n))) [
      | inl first ↦ (suc n, within, omega arith, rw first refl)
      | inr first ↦ (
          elim (cases_eq k (suc n)) [
            | inl is ↦ absurd (both_ways (passes (suc n)) first (subst (λ j. passes j ≡ true) is holds))
            | inr other ↦ (let found = greatest_found passes n k (omega arith) holds in
                (found.0, found.1, omega arith, rw first found.3))
          ])
    ]
