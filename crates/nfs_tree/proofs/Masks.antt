-- Words of bitmaps behind the first two.
use Rattle.std.proofs.Common.{◌≡◌, ℕ, ◌≤◌, ◌==◌, true, List, [], ◌∷◌, length, drop, refl, arith}
use Rattle.std.specs.List.{list_all}

pub none_behind : (mask : List ℕ) → length mask ≤ 2 → true ≡ list_all (λ word. word == 0) (drop 2 mask)
none_behind [] few = refl
none_behind (word ∷ []) few = refl
none_behind (word ∷ next ∷ []) few = refl
none_behind (word ∷ next ∷ more ∷ words) few = absurd (omega (arith, few))
