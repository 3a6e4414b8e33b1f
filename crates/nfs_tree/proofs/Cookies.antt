-- The children of a directory: found one after the other, and by their cookies.
use Rattle.std.proofs.Common.{◌≡◌, ℕ, zero, suc, ◌+◌, ◌-◌, ◌<◌, ◌==◌, Bool, true, false, List, [], ◌∷◌, ◌++◌, filter, slice_get, Option, Some, None, refl, sym, ap, ◌∙◌, arith, inl, inr}
use Rattle.std.specs.Prelude.{◌&&◌, ◌||◌, nat_lt, if◌then◌else◌}
use Rattle.std.specs.List.{list_any}
use Rattle.std.proofs.lemmas.Bool.{eqb-true}
use Rattle.std.proofs.lemmas.Bool.Decides.{nat_tests}
use Rattle.nfs_tree.specs.declared.node.Node.{Node}
use Rattle.nfs_tree.specs.Children.{children_after, children_from, cookie_of, is_cookie, listed, listed_from}
use Rattle.nfs_tree.specs.Tree.{node_at}
use Rattle.nfs_tree.proofs.Nodes.{decided}

-- the children behind a cookie, found in one pass
kept_turn : (kept : Bool) (number : ℕ) (more : List ℕ) → (if kept then number ∷ [] else []) ++ more ≡ (if kept then number ∷ more else more)
kept_turn true number more = refl
kept_turn false number more = refl

filter_turn : (f : ℕ → Bool) (p : Bool) (number : ℕ) (more : List ℕ)
    → (if p && f number then number ∷ [] else []) ++ filter f more ≡ filter f (if p then number ∷ more else more)
filter_turn f false number more = refl
filter_turn f true number more = kept_turn (f number) number (filter f more)

listed_as_after : (nodes : List Node) (number directory cookie : ℕ)
    → listed_from number nodes directory cookie ≡ filter (λ child. nat_lt cookie (cookie_of child)) (children_from number nodes directory)
listed_as_after [] number directory cookie = refl
listed_as_after (node ∷ nodes) number directory cookie =
    let next : number + 1 ≡ suc number = omega arith in
    ap (λ n. listed number node directory cookie ++ listed_from n nodes directory cookie) next
    ∙ ap (λ rest. listed number node directory cookie ++ rest) (listed_as_after nodes (suc number) directory cookie)
    ∙ filter_turn (λ child. nat_lt cookie (cookie_of child)) (node.parent == directory) number (children_from (suc number) nodes directory)

pub listed_are_after : (nodes : List Node) (directory cookie : ℕ) → listed_from 1 nodes directory cookie ≡ children_after nodes directory cookie
listed_are_after nodes directory cookie = listed_as_after nodes 1 directory cookie

-- the node of a child's cookie is in the directory
abbrev pub is_child_of : ℕ → Option Node → Bool
is_child_of directory None = false
is_child_of directory (Some node) = node.parent == directory

abbrev is_found : ℕ → ℕ → Bool
is_found cookie child = cookie_of child == cookie

either_any : (test : ℕ → Bool) (p : Bool) (number : ℕ) (more : List ℕ)
    → list_any test (if p then number ∷ more else more) ≡ ((p && test number) || list_any test more)
either_any test true number more = refl
either_any test false number more = refl

neither : (p : Bool) → ((p && false) || false) ≡ false
neither true = refl
neither false = refl

only : (p : Bool) → ((p && true) || false) ≡ p
only true = refl
only false = refl

later : (p b : Bool) → ((p && false) || b) ≡ b
later true b = refl
later false b = refl

none_found : (nodes : List Node) (number directory cookie : ℕ) → cookie < number + 2 → list_any (is_found cookie) (children_from number nodes directory) ≡ false
none_found [] number directory cookie below = refl
none_found (node ∷ nodes) number directory cookie below =
    let other : (number + 2 == cookie) ≡ false = grind (arith, nat_tests) in
    either_any (is_found cookie) (node.parent == directory) number (children_from (suc number) nodes directory)
    ∙ ap (λ b. ((node.parent == directory) && b) || list_any (is_found cookie) (children_from (suc number) nodes directory)) other
    ∙ ap (λ b. ((node.parent == directory) && false) || b) (none_found nodes (suc number) directory cookie (omega (arith, below)))
    ∙ neither (node.parent == directory)

found_from : (nodes : List Node) (number directory cookie k : ℕ) → cookie ≡ number + 2 + k
    → list_any (is_found cookie) (children_from number nodes directory) ≡ is_child_of directory (slice_get nodes k)
found_from [] number directory cookie k is = refl
found_from (node ∷ nodes) number directory cookie zero is =
    let here : (number + 2 == cookie) ≡ true = grind (arith, nat_tests) in
    either_any (is_found cookie) (node.parent == directory) number (children_from (suc number) nodes directory)
    ∙ ap (λ b. ((node.parent == directory) && b) || list_any (is_found cookie) (children_from (suc number) nodes directory)) here
    ∙ ap (λ b. ((node.parent == directory) && true) || b) (none_found nodes (suc number) directory cookie (omega (arith, is)))
    ∙ only (node.parent == directory)
found_from (node ∷ nodes) number directory cookie (suc k) is =
    let other : (number + 2 == cookie) ≡ false = grind (arith, nat_tests) in
    either_any (is_found cookie) (node.parent == directory) number (children_from (suc number) nodes directory)
    ∙ ap (λ b. ((node.parent == directory) && b) || list_any (is_found cookie) (children_from (suc number) nodes directory)) other
    ∙ later (node.parent == directory) _
    ∙ found_from nodes (suc number) directory cookie k (omega (arith, is))

-- a cookie other than 0 is that of a child exactly if its node is in the directory
is_cookie_above : (nodes : List Node) (directory cookie : ℕ) → (cookie == 0) ≡ false
    → is_child_of directory (node_at nodes (cookie - 2)) ≡ is_cookie nodes directory cookie
is_cookie_above nodes directory cookie some =
    elim (decided (nat_lt cookie 3)) [
      | inl below ↦
          let root : (cookie - 2 == 0) ≡ true = grind (arith, nat_tests) in
          let few : cookie < 1 + 2 = grind (arith, nat_tests) in
          rw (root, some) (sym (none_found nodes 1 directory cookie few))
      | inr above ↦
          let beside : (cookie - 2 == 0) ≡ false = grind (arith, nat_tests) in
          let is : cookie ≡ 1 + 2 + (cookie - 2 - 1) = grind (arith, nat_tests) in
          rw (beside, some) (sym (found_from nodes 1 directory cookie (cookie - 2 - 1) is))
    ]

above_zero : (cookie : ℕ) → (cookie ≡ 0 → ⊥) → (cookie == 0) ≡ false
above_zero cookie some =
    elim (decided (cookie == 0)) [
      | inl none ↦ absurd (some (eqb-true cookie 0 none))
      | inr other ↦ other
    ]

pub is_cookie_of : (nodes : List Node) (directory cookie : ℕ) → (cookie ≡ 0 → ⊥)
    → is_child_of directory (node_at nodes (cookie - 2)) ≡ is_cookie nodes directory cookie
is_cookie_of nodes directory cookie some = is_cookie_above nodes directory cookie (above_zero cookie some)
