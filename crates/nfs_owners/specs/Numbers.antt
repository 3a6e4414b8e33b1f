-- The numbers of states (RFC 7530, section 9.1.4).
use Rattle.std.specs.Prelude.{◌≡◌, ℕ, ◌+◌, ◌<◌, List, [], ◌∷◌}
use Rattle.std.specs.List.{AllPairs}

-- after `last` this number is given, and it is then the last one
abbrev pub Gives : ℕ → ℕ → ℕ → Type 0
Gives last number new = (number ≡ last + 1) × (new ≡ number)

-- after `last` these numbers are given, one after the other, and then the last one is `new`
abbrev pub GivesEach : ℕ → List ℕ → ℕ → Type 0
GivesEach last [] new = new ≡ last
GivesEach last (number ∷ numbers) new =
    (mid : ℕ) × Gives last number mid × GivesEach mid numbers new

-- of numbers that are given one after the other, each is below all later ones, and all are above those before
abbrev pub NumbersRise : Type 0
NumbersRise =
    (last new : ℕ) (numbers : List ℕ) → GivesEach last numbers new
    → AllPairs (λ a b. a < b) (last ∷ numbers)
