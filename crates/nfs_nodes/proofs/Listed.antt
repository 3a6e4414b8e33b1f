-- What a file has, beside the files' lists.
use Rattle.std.proofs.Common.{◌≡◌, ℕ, zero, suc, ◌<◌, ◌≤◌, Bool, true, false, List, [], ◌∷◌, length, map, nat_eq, slice_index_or, refl, sym, ap, arith}
use Rattle.std.specs.Prelude.{◌||◌}
use Rattle.std.specs.List.{AllByRecursion, list_any}
use Rattle.std.proofs.lemmas.Bool.{eqb-false, true≢false}
use Rattle.nfs_nodes.specs.Numbers.{list_of}

module _ {F X : Type 0} (get : F → List X) where
  -- what the file of a node has; and nothing where there is no such node
  pub list_there : (files : List F) (node : ℕ) (file : F) → node < length files → file ≡ slice_index_or files node file → list_of node (map get files) ≡ get file
  list_there [] node file below is = absurd (omega (arith, below))
  list_there (f ∷ files) zero file below is = ap get (sym is)
  list_there (f ∷ files) (suc node) file below is = list_there files node file (omega (arith, below)) is

  pub none_there : (files : List F) (node : ℕ) → length files ≤ node → [] ≡ list_of node (map get files)
  none_there [] node above = refl
  none_there (f ∷ files) zero above = absurd (omega (arith, above))
  none_there (f ∷ files) (suc node) above = none_there files node (omega (arith, above))

-- nothing in the list has the number
pub none_numbered : {X : Type 0} (number_of : X → ℕ) (n : ℕ) (xs : List X) → list_any (λ x. nat_eq (number_of x) n) xs ≡ false
    → AllByRecursion (λ x. number_of x ≡ n → ⊥) xs
none_numbered number_of n [] none = tt
none_numbered number_of n (x ∷ xs) none =
    by (nat_eq (number_of x) n) refl none (λ rest. none_numbered number_of n xs rest)
  where
    by : (b : Bool) → nat_eq (number_of x) n ≡ b → (b || list_any (λ x. nat_eq (number_of x) n) xs) ≡ false
        → (list_any (λ x. nat_eq (number_of x) n) xs ≡ false → AllByRecursion (λ x. number_of x ≡ n → ⊥) xs)
        → (number_of x ≡ n → ⊥) × AllByRecursion (λ x. number_of x ≡ n → ⊥) xs
    by true is nothing rest = absurd (true≢false nothing)
    by false is nothing rest = (eqb-false (number_of x) n is, rest nothing)
