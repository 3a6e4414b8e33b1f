use Rattle.std.proofs.Common.{ℕ, ◌<◌, ◌≤◌, List, [], ◌∷◌, subst, arith}
use Rattle.std.specs.List.{All, AllPairs}
use Rattle.std.proofs.lemmas.List.Elements.{All-cons, All-nil}
use Rattle.std.proofs.lemmas.List.Kept.{AllPairs-cons}
use Rattle.nfs_owners.specs.Numbers.{GivesEach}
use Rattle.nfs_owners.proofs.numbers.numbers_rise.Goals as goal

above : (low last new : ℕ) (numbers : List ℕ) → low ≤ last → GivesEach last numbers new → All (λ n. low < n) numbers
above low last new [] at_least given = All-nil (λ n. low < n)
above low last new (number ∷ numbers) at_least given =
    All-cons (λ n. low < n) number numbers (omega (arith, given.1.0)) (above low given.0 new numbers (omega (arith, given.1.0, given.1.1)) given.2)

rise : (last new : ℕ) (numbers : List ℕ) → GivesEach last numbers new → AllPairs (λ a b. a < b) (last ∷ numbers)
rise last new [] given = λ i j d before below. absurd (omega (arith, before, below))
rise last new (number ∷ numbers) given =
    AllPairs-cons (λ a b. a < b) last (number ∷ numbers) (above last last new (number ∷ numbers) (omega arith) given)
    (subst (λ n. AllPairs (λ a b. a < b) (n ∷ numbers)) given.1.1 (rise given.0 new numbers given.2))

pub returns : goal.returns
returns c = rise
