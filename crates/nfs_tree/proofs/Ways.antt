-- Names that lead through a tree still do so when nodes are added, and the names of a chain lead from its parent to
-- each of its nodes.
use Rattle.std.proofs.Common.{◌≡◌, ℕ, zero, suc, ◌+◌, ◌-◌, ◌<◌, ◌≤◌, ◌==◌, ◌⊎◌, Bool, true, false, not, ltb, List, [], ◌∷◌, ◌++◌, length, get_or, take, drop, position, slice_get, Some, None, option_map, option_and_then, refl, sym, ap, subst, ◌∙◌, append_assoc, arith, inl, inr, length-append}
use Rattle.std.specs.List.{position_or_len}
use Rattle.std.specs.Str.{bytes_eq}
use Rattle.std.proofs.lemmas.Bool.{eqb-true}
use Rattle.std.proofs.lemmas.Bool.Decides.{nat_tests}
use Rattle.std.proofs.lemmas.List.Folds.{prefix_len-append}
use Rattle.std.proofs.lemmas.List.Sums.{prefix_len-le-length}
use Rattle.std.proofs.lemmas.List.Quantifiers.{position-Some}
use Rattle.std.proofs.lemmas.Option.{slice_get_within, slice_get-get_or}
use Rattle.std.proofs.lemmas.Slice.Eq.{bytes_eq-Decides}
use Rattle.nfs_tree.specs.declared.node.Node.{Node}
use Rattle.nfs_tree.specs.declared.node.NodeKind.{NodeKind}
use Rattle.nfs_tree.specs.declared.node.NodeKind.TheVariants.{Directory, File}
use Rattle.nfs_tree.specs.Building.{way, chain, kind_before}
use Rattle.nfs_tree.specs.Leads.{Leads, IsOfKind}
use Rattle.nfs_tree.specs.Tree.{is_directory, is_directory_kind, is_directory_node, is_child, child, text_of, text_of_kind}
use Rattle.nfs_tree.proofs.Nodes.{decided, and_parts, option_cases, directory_stays, directory_at, ParentsWithin, parents_append, parents_more, no_child}
use Rattle.nfs_tree.proofs.Growing.{IsFresh}

-- the position of the first element that passes stays the same when elements are added at the end
first_stays : {A : Type 0} (p : A → Bool) (xs ys : List A) → position_or_len p xs < length xs → position_or_len p (xs ++ ys) ≡ position_or_len p xs
first_stays p xs ys within =
    let found : (position_or_len p xs == length xs) ≡ false = grind (arith, nat_tests) in
    prefix_len-append (λ x. not (p x)) xs ys ∙ rw found refl

-- if none passes, the next element that does is the first one
first_next : {A : Type 0} (p : A → Bool) (xs : List A) (y : A) (ys : List A) → position_or_len p xs ≡ length xs → p y ≡ true → position_or_len p (xs ++ y ∷ ys) ≡ length xs
first_next p xs y ys none is =
    let past : (position_or_len p xs == length xs) ≡ true = grind (arith, nat_tests) in
    prefix_len-append (λ x. not (p x)) xs (y ∷ ys) ∙ rw (past, is) (omega arith)

position_is : {A : Type 0} (p : A → Bool) (xs : List A) → position_or_len p xs < length xs → position p xs ≡ Some (position_or_len p xs)
position_is p xs within =
    let test : ltb (position_or_len p xs) (length xs) ≡ true = grind (arith, nat_tests) in
    rw test refl

position_cases : {A : Type 0} (p : A → Bool) (xs : List A) → ((position p xs ≡ None) × (position_or_len p xs ≡ length xs)) ⊎ ((position_or_len p xs < length xs) × (position p xs ≡ Some (position_or_len p xs)))
position_cases p xs =
    elim (decided (ltb (position_or_len p xs) (length xs))) [
      | inl within ↦ inr (grind (arith, nat_tests), rw within refl)
      | inr past ↦ let least = prefix_len-le-length (λ x. not (p x)) xs in
          inl (rw past refl, grind (arith, nat_tests))
    ]

-- a child remains one when nodes are added
child_stays : (nodes more : List Node) (parent : ℕ) (name : List ℕ) (n : ℕ) → child nodes parent name ≡ Some n → child (nodes ++ more) parent name ≡ Some n
child_stays nodes more parent name n found =
    elim (position_cases (is_child parent name) nodes) [
      | inl none ↦ let not_found : None ≡ Some n = ap (option_map (λ place. place + 1)) (sym none.0) ∙ found in cc
      | inr some ↦
          let first = first_stays (is_child parent name) nodes more some.0 in
          let long = length-append nodes more in
          let before = some.0 in
          let within : position_or_len (is_child parent name) (nodes ++ more) < length (nodes ++ more) = omega arith in
          ap (option_map (λ place. place + 1)) (position_is (is_child parent name) (nodes ++ more) within ∙ ap (λ (i : ℕ). Some i) first ∙ sym some.1) ∙ found
    ]

pub leads_stay : (nodes more : List Node) (from : ℕ) (names : List (List ℕ)) (to : ℕ) → Leads nodes from names to → Leads (nodes ++ more) from names to
leads_stay nodes more from [] to leads = leads
leads_stay nodes more from (name ∷ names) to leads =
    (leads.0, child_stays nodes more from name leads.0 leads.1, leads_stay nodes more leads.0 names to leads.2)

pub leads_on : (nodes : List Node) (from : ℕ) (front : List (List ℕ)) (middle : ℕ) (back : List (List ℕ)) (to : ℕ) → Leads nodes from front middle → Leads nodes middle back to → Leads nodes from (front ++ back) to
leads_on nodes from [] middle back to first second = subst (λ n. Leads nodes n back to) (sym first) second
leads_on nodes from (name ∷ front) middle back to first second =
    (first.0, first.1, leads_on nodes first.0 front middle back to first.2 second)

-- an added node is the child with its name if there was none with this name
child_next : (before : List Node) (node : Node) (more : List Node) → child before node.parent node.name ≡ None → child (before ++ node ∷ more) node.parent node.name ≡ Some (length before + 1)
child_next before node more none =
    let same : (node.parent == node.parent) ≡ true = grind (arith, nat_tests) in
    let own : is_child node.parent node.name node ≡ true = rw (same, (bytes_eq-Decides node.name node.name).1 refl) refl in
    elim (position_cases (is_child node.parent node.name) before) [
      | inl absent ↦
          let first = first_next (is_child node.parent node.name) before node more absent.1 own in
          let long = length-append before (node ∷ more) in
          let within : position_or_len (is_child node.parent node.name) (before ++ node ∷ more) < length (before ++ node ∷ more) = omega arith in
          ap (option_map (λ place. place + 1)) (position_is (is_child node.parent node.name) (before ++ node ∷ more) within ∙ ap (λ (i : ℕ). Some i) first)
      | inr some ↦ let not_none : None ≡ Some (position_or_len (is_child node.parent node.name) before + 1) = sym none ∙ ap (option_map (λ place. place + 1)) some.1 in cc
    ]

-- The names of a chain lead from its parent to its nodes: the first `count + 1` names lead to the node at position
-- `count`.
pub chain_leads : (before : List Node) (parent : ℕ) (names : List (List ℕ)) (kind : NodeKind) (count : ℕ) → ParentsWithin (length before) before → parent ≤ length before → IsFresh before parent names → count < length names → Leads (before ++ chain parent (length before + 1) names kind) parent (take (suc count) names) (length before + suc count)
chain_leads before parent [] kind count p within fresh some = absurd (omega arith)
chain_leads before parent (name ∷ names) kind zero p within fresh some =
    let node : Node = record { parent = parent; name = name; kind = kind_before names kind } in
    (length before + 1, child_next before node (chain (length before + 1) (length before + 1 + 1) names kind) fresh, omega arith)
chain_leads before parent (name ∷ []) kind (suc count) p within fresh some = absurd (omega arith)
chain_leads before parent (name ∷ next ∷ names) kind (suc count) p within fresh some =
    let node : Node = record { parent = parent; name = name; kind = kind_before (next ∷ names) kind } in
    let more : List Node = before ++ node ∷ [] in
    let rest : List Node = chain (length before + 1) (length before + 1 + 1) (next ∷ names) kind in
    let long : length more ≡ length before + 1 = length-append before (node ∷ []) in
    let of_more : ParentsWithin (length before) more = parents_append (length before) before (node ∷ []) p (within, tt) in
    let fresh_next : child more (length before + 1) next ≡ None = no_child (length before) (length before + 1) next more (omega arith) of_more in
    let on = chain_leads more (length before + 1) (next ∷ names) kind count (parents_more (length before) (length more) more (omega arith) of_more) (omega arith) fresh_next (omega arith) in
    let at : Leads (more ++ rest) (length before + 1) (take (suc count) (next ∷ names)) (length before + 1 + suc count) =
    subst (λ (n : ℕ). Leads (more ++ chain (length before + 1) (n + 1) (next ∷ names) kind) (length before + 1) (take (suc count) (next ∷ names)) (n + suc count)) long on in
    let to : length before + 1 + suc count ≡ length before + suc (suc count) = omega arith in (
      length before + 1,
      child_next before node rest fresh,
      subst (λ (n : ℕ). Leads (before ++ node ∷ rest) (length before + 1) (take (suc count) (next ∷ names)) n) to
          (subst (λ (ns : List Node). Leads ns (length before + 1) (take (suc count) (next ∷ names)) (length before + 1 + suc count)) (append_assoc before (node ∷ []) rest) at),
    )

-- the names that were found lead to the node where the way ends
pub way_leads : (nodes : List Node) (from : ℕ) (names : List (List ℕ)) → (found : List (List ℕ)) × (found ++ (way nodes from names).missing ≡ names) × Leads nodes from found (way nodes from names).end
way_leads nodes from [] = ([], refl, refl)
way_leads nodes from (name ∷ names) =
    elim (option_cases (child nodes from name)) [
      | inl absent ↦ rw absent ([], refl, refl)
      | inr some ↦ let more = way_leads nodes some.0 names in
          rw some.1 (name ∷ more.0, ap (λ ns. name ∷ ns) more.1, (some.0, some.1, more.2))
    ]

-- an element in the front list keeps its position when others are added at the end
slice_get-stays : {A : Type 0} (xs ys : List A) (i : ℕ) → i < length xs → slice_get (xs ++ ys) i ≡ slice_get xs i
slice_get-stays [] ys i within = absurd (omega arith)
slice_get-stays (x ∷ xs) ys zero within = refl
slice_get-stays (x ∷ xs) ys (suc i) within = slice_get-stays xs ys i (omega arith)

pub slice_get-beyond : {A : Type 0} (xs ys : List A) (i : ℕ) → slice_get (xs ++ ys) (length xs + i) ≡ slice_get ys i
slice_get-beyond [] ys i = ap (slice_get ys) (omega arith)
slice_get-beyond (x ∷ xs) ys i =
    let next : length (x ∷ xs) + i ≡ suc (length xs + i) = omega arith in
    ap (slice_get (x ∷ xs ++ ys)) next ∙ slice_get-beyond xs ys i

pub text_at : (nodes : List Node) (n : ℕ) → text_of nodes (n + 1) ≡ option_and_then (λ node. text_of_kind node.kind) (slice_get nodes n)
text_at nodes n =
    let some : (n + 1 == 0) ≡ false = grind (arith, nat_tests) in
    let same : n + 1 - 1 ≡ n = omega arith in
    rw (some, same) refl

-- the nodes of a chain are directories, except the last, which has the given kind
pub chain_kinds : (parent number : ℕ) (names : List (List ℕ)) (kind : NodeKind) (count : ℕ) → count < length names → (node : Node) × (slice_get (chain parent number names kind) count ≡ Some node) × (node.kind ≡ kind_before (drop (suc count) names) kind)
chain_kinds parent number [] kind count some = absurd (omega arith)
chain_kinds parent number (name ∷ names) kind zero some = (record { parent = parent; name = name; kind = kind_before names kind }, refl, refl)
chain_kinds parent number (name ∷ names) kind (suc count) some = chain_kinds number (number + 1) names kind count (omega arith)

pub is_kind : (nodes : List Node) (n : ℕ) (kind : NodeKind) (node : Node) → slice_get nodes n ≡ Some node → node.kind ≡ kind → IsOfKind nodes (n + 1) kind
is_kind nodes n Directory node at is = directory_at nodes n ∙ ap is_directory_node at ∙ ap is_directory_kind is
is_kind nodes n (File text) node at is = text_at nodes n ∙ ap (option_and_then (λ (node : Node). text_of_kind node.kind)) at ∙ ap text_of_kind is

-- a text belongs to a node other than the root
pub text_cases : (nodes : List Node) (n : ℕ) (text : List ℕ) → text_of nodes n ≡ Some text → (m : ℕ) × (n ≡ m + 1) × (m < length nodes) × (node : Node) × (slice_get nodes m ≡ Some node) × (text_of_kind node.kind ≡ Some text)
text_cases nodes zero text is = cc
text_cases nodes (suc m) text is =
    let next : suc m ≡ m + 1 = omega arith in
    let at : option_and_then (λ (node : Node). text_of_kind node.kind) (slice_get nodes m) ≡ Some text = sym (text_at nodes m) ∙ ap (text_of nodes) (sym next) ∙ is in
    elim (option_cases (slice_get nodes m)) [
      | inl absent ↦ let not_none : None ≡ Some text = ap (option_and_then (λ (node : Node). text_of_kind node.kind)) (sym absent) ∙ at in cc
      | inr some ↦ (m, next, slice_get_within nodes m some.0 some.1, some.0, some.1, ap (option_and_then (λ (node : Node). text_of_kind node.kind)) (sym some.1) ∙ at)
    ]

-- a node keeps its text when others are added
pub text_before : (nodes more : List Node) (n : ℕ) → n ≤ length nodes → text_of (nodes ++ more) n ≡ text_of nodes n
text_before nodes more zero within = refl
text_before nodes more (suc m) within =
    let next : suc m ≡ m + 1 = omega arith in
    rw next (text_at (nodes ++ more) m ∙ ap (option_and_then (λ (node : Node). text_of_kind node.kind)) (slice_get-stays nodes more m (omega arith)) ∙ sym (text_at nodes m))

pub kind_stays : (nodes more : List Node) (n : ℕ) (kind : NodeKind) → IsOfKind nodes n kind → IsOfKind (nodes ++ more) n kind
kind_stays nodes more n Directory is = directory_stays nodes more n is
kind_stays nodes more n (File text) is =
    let at = text_cases nodes n text is in
    let within = at.2 in
    let number = at.1 in
    text_before nodes more n (omega arith) ∙ is

-- A node is the child of only one parent by only one name, so only one way leads to it.
child_at : (nodes : List Node) (parent : ℕ) (name : List ℕ) (n : ℕ) → child nodes parent name ≡ Some n → (place : ℕ) × (n ≡ place + 1) × (node : Node) × (slice_get nodes place ≡ Some node) × (node.parent ≡ parent) × (node.name ≡ name)
child_at nodes parent name n found =
    elim (option_cases (position (is_child parent name) nodes)) [
      | inl absent ↦ let not_none : None ≡ Some n = ap (option_map (λ place. place + 1)) (sym absent) ∙ found in cc
      | inr some ↦
          let number : Some (some.0 + 1) ≡ Some n = ap (option_map (λ place. place + 1)) (sym some.1) ∙ found in
          let none : Node = record { parent = 0; name = []; kind = Directory } in
          let at = position-Some (is_child parent name) nodes some.0 none some.1 in
          let node = get_or nodes some.0 none in
          let both = and_parts (node.parent == parent) (bytes_eq node.name name) at.1 in
          (some.0, cc, node, slice_get-get_or nodes some.0 none at.0, eqb-true node.parent parent both.0, (bytes_eq-Decides node.name name).0 both.1)
    ]

one_parent : (nodes : List Node) (parent other : ℕ) (name other_name : List ℕ) (n : ℕ) → child nodes parent name ≡ Some n → child nodes other other_name ≡ Some n → (parent ≡ other) × (name ≡ other_name)
one_parent nodes parent other name other_name n first second =
    let one = child_at nodes parent name n first in
    let two = child_at nodes other other_name n second in
    let place : one.0 ≡ two.0 = let a = one.1 in let b = two.1 in omega arith in
    let same : Some one.2 ≡ Some two.2 = sym one.3 ∙ ap (slice_get nodes) place ∙ two.3 in
    let node : one.2 ≡ two.2 = cc in
    (sym one.4 ∙ ap (λ (m : Node). m.parent) node ∙ two.4, sym one.5 ∙ ap (λ (m : Node). m.name) node ∙ two.5)

child_not_root : (nodes : List Node) (parent : ℕ) (name : List ℕ) → child nodes parent name ≡ Some 0 → ⊥
child_not_root nodes parent name found =
    let at = child_at nodes parent name 0 found in
    let number = at.1 in
    absurd (omega arith)

-- the last of the names, and where the names before it lead
leads_last : (nodes : List Node) (from : ℕ) (name : List ℕ) (names : List (List ℕ)) (to : ℕ) → Leads nodes from (name ∷ names) to → (front : List (List ℕ)) × (last : List ℕ) × (parent : ℕ) × (name ∷ names ≡ front ++ last ∷ []) × (length front ≡ length names) × Leads nodes from front parent × (child nodes parent last ≡ Some to)
leads_last nodes from name [] to leads = ([], name, from, refl, refl, refl, leads.1 ∙ ap (λ (n : ℕ). Some n) leads.2)
leads_last nodes from name (next ∷ names) to leads =
    let rest = leads_last nodes leads.0 next names to leads.2 in
    (name ∷ rest.0, rest.1, rest.2, ap (λ ns. name ∷ ns) rest.3, ap suc rest.4, (leads.0, leads.1, rest.5), rest.6)

one_way_of : (nodes : List Node) (count n : ℕ) (names others : List (List ℕ)) → length names ≡ count → Leads nodes 0 names n → Leads nodes 0 others n → names ≡ others
one_way_of nodes count n [] [] long first second = refl
one_way_of nodes count n [] (other ∷ others) long first second =
    let at = leads_last nodes 0 other others n second in
    absurd (child_not_root nodes at.2 at.1 (at.6 ∙ ap (λ (m : ℕ). Some m) (sym first)))
one_way_of nodes count n (name ∷ names) [] long first second =
    let at = leads_last nodes 0 name names n first in
    absurd (child_not_root nodes at.2 at.1 (at.6 ∙ ap (λ (m : ℕ). Some m) (sym second)))
one_way_of nodes zero n (name ∷ names) (other ∷ others) long first second = absurd (omega arith)
one_way_of nodes (suc count) n (name ∷ names) (other ∷ others) long first second =
    let one = leads_last nodes 0 name names n first in
    let two = leads_last nodes 0 other others n second in
    let same = one_parent nodes one.2 two.2 one.1 two.1 n one.6 two.6 in
    let short = one.4 in
    let front : one.0 ≡ two.0 = one_way_of nodes count one.2 one.0 two.0 (omega arith) one.5 (subst (Leads nodes 0 two.0) (sym same.0) two.5) in
    one.3 ∙ ap (λ (ns : List (List ℕ)). ns ++ one.1 ∷ []) front ∙ ap (λ (b : List ℕ). two.0 ++ b ∷ []) same.1 ∙ sym two.3

pub one_way : (nodes : List Node) (n : ℕ) (names others : List (List ℕ)) → Leads nodes 0 names n → Leads nodes 0 others n → names ≡ others
one_way nodes n names others first second = one_way_of nodes (length names) n names others refl first second

-- if names lead all the way, none is missing
pub way_of : (nodes : List Node) (from : ℕ) (names : List (List ℕ)) (to : ℕ) → Leads nodes from names to → way nodes from names ≡ record { end = to; missing = [] }
way_of nodes from [] to leads = ap (λ n. record { end = n; missing = [] }) leads
way_of nodes from (name ∷ names) to leads = rw leads.1 (way_of nodes leads.0 names to leads.2)

-- a node with a text isn't a directory
text_of_directory : (kind : NodeKind) (text : List ℕ) → text_of_kind kind ≡ Some text → is_directory_kind kind ≡ true → ⊥
text_of_directory Directory text is directory = cc
text_of_directory (File own) text is directory = cc

pub not_both_kinds : (nodes : List Node) (n : ℕ) (text : List ℕ) → text_of nodes n ≡ Some text → is_directory nodes n ≡ true → ⊥
not_both_kinds nodes n text is directory =
    let at = text_cases nodes n text is in
    text_of_directory at.3.kind text at.5 (ap is_directory_node (sym at.4) ∙ sym (directory_at nodes at.0) ∙ ap (is_directory nodes) (sym at.1) ∙ directory)
