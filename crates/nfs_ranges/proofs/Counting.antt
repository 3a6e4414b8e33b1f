-- How many numbers below one pass a test, and where no run begins.
use Rattle.std.proofs.Common.{◌≡◌, ℕ, zero, suc, ◌+◌, ◌-◌, ◌<◌, ◌≤◌, Bool, true, false, ◌&&◌, ◌||◌, not, ◌==◌, is_some, if◌then◌else◌, Option, None, inl, inr, refl, sym, ◌∙◌, ap, arith}
use Rattle.std.proofs.Math.Bool.{and-false}
use Rattle.std.proofs.lemmas.Bool.{cases_lt, ne_eqb}
use Rattle.nfs_ranges.specs.Modes.{is_same}
use Rattle.nfs_ranges.specs.Runs.{begins, count_below}
use Rattle.nfs_ranges.specs.declared.mode.Mode.{Mode}
use Rattle.nfs_ranges.proofs.Pieces.{same_self}

-- one more number
pub count_next : (test : ℕ → Bool) (n : ℕ) → count_below test (suc n) ≡ (if test n then 1 else 0) + count_below test n
unfolding count_below
count_next test n = refl

pub count_none : (test : ℕ → Bool) → count_below test zero ≡ 0
unfolding count_below
count_none test = refl

-- a number that doesn't pass isn't counted
pub not_counted : (t : Bool) (n k : ℕ) → t ≡ false → k ≡ (if t then 1 else 0) + n → k ≡ n
not_counted true n k fails is = absurd cc
not_counted false n k fails is = omega (arith, is)

-- where none passes, none is counted
pub count_zero : (test : ℕ → Bool) (n : ℕ) → ((b : ℕ) → b < n → test b ≡ false) → count_below test n ≡ 0
count_zero test zero fails = count_none test
count_zero test (suc n) fails =
    not_counted (test n) (count_below test n) (count_below test (suc n)) (fails n (omega arith)) (count_next test n)
    ∙ count_zero test n (λ b below. fails b (omega (arith, below)))

-- where only one number passes, one is counted at most
one_more : (t : Bool) (n k : ℕ) → n ≡ 0 → k ≡ (if t then 1 else 0) + n → k ≤ 1
one_more true n k none is = omega (arith, none, is)
one_more false n k none is = omega (arith, none, is)

pub count_one : (test : ℕ → Bool) (only n : ℕ) → ((b : ℕ) → b < only → test b ≡ false)
    → ((b : ℕ) → only < b → test b ≡ false) → count_below test n ≤ 1
count_one test only zero below above = omega (arith, count_none test)
count_one test only (suc n) below above =
    elim (cases_lt only n) [
      | inl less ↦
          let same = not_counted (test n) (count_below test n) (count_below test (suc n)) (above n less) (count_next test n) in
          omega (arith, same, count_one test only n below above)
      | inr most ↦
          one_more (test n) (count_below test n) (count_below test (suc n))
          (count_zero test n (λ b less. below b (omega (arith, less, most)))) (count_next test n)
    ]

-- tests that agree count the same
pub count_agree : (p q : ℕ → Bool) (n : ℕ) → ((b : ℕ) → b < n → q b ≡ p b) → count_below q n ≡ count_below p n
count_agree p q zero agree = count_none q ∙ sym (count_none p)
count_agree p q (suc n) agree =
    count_next q n
    ∙ ap (λ t. (if t then 1 else 0) + count_below q n) (agree n (omega arith))
    ∙ ap (λ k. (if p n then 1 else 0) + k) (count_agree p q n (λ b below. agree b (omega (arith, below))))
    ∙ sym (count_next p n)

-- no run begins at a byte with the mode of the one before
pub no_start : (modes : ℕ → Option Mode) (byte : ℕ) → 0 < byte → modes (byte - 1) ≡ modes byte
    → begins modes byte ≡ false
no_start modes byte above same =
    ap (λ t. is_some (modes byte) && (byte == 0 || not t)) (ap (is_same (modes byte)) same ∙ same_self (modes byte))
    ∙ ap (λ t. is_some (modes byte) && (t || false)) (ne_eqb byte 0 (λ e. omega (arith, above, e)))
    ∙ and-false (is_some (modes byte))

-- where no byte is held, no run begins
pub free_starts_none : (modes : ℕ → Option Mode) (byte : ℕ) → modes byte ≡ None → begins modes byte ≡ false
free_starts_none modes byte free = ap (λ m. is_some m && (byte == 0 || not (is_same m (modes (byte - 1))))) free
