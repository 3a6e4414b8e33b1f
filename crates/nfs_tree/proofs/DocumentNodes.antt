-- The nodes of a document are taken one after the other, and make a tree.
use Rattle.std.proofs.Common.{◌≡◌, ℕ, suc, ◌+◌, ◌-◌, ◌<◌, ◌≤◌, Bool, true, false, not, List, [], ◌∷◌, ◌++◌, length, get_or, take, drop, Option, Some, None, refl, sym, ap, ◌∙◌, arith, inl, inr}
use Rattle.std.specs.Prelude.{◌&&◌, nat_le, is_none}
use Rattle.std.specs.Str.{IsUtf8, is_utf8}
use Rattle.std.proofs.lemmas.Bool.Decides.{nat_tests}
use Rattle.std.proofs.lemmas.Str.{is_utf8-from_IsUtf8, IsUtf8-from_is_utf8}
use Rattle.std.proofs.lemmas.List.{drop_more, take_more, take_all}
use Rattle.std.proofs.Math.ListN.{drop_of_length-le}
use Rattle.nfs_tree.specs.declared.node.Node.{Node}
use Rattle.nfs_tree.specs.declared.node.NodeKind.{NodeKind}
use Rattle.nfs_tree.specs.declared.node.NodeKind.TheVariants.{Directory, File}
use Rattle.nfs_tree.specs.declared.tree.TheConstants.{FILE_LIMIT, DIRECTORY_LIMIT, TEXT_LIMIT}
use Rattle.nfs_tree.specs.DocumentNodes.{steps_up, parent_or_root, has_place, is_document_kind, is_document_name, is_on_way, can_follow, each_can_follow, are_of_a_document}
use Rattle.nfs_tree.specs.Tree.{Fits, EachFits, HasTextWithin, IsTree, child, is_directory, node_at, directories, files, is_name}
use Rattle.nfs_tree.proofs.Nodes.{decided, and_parts}

-- one more node was taken
pub taken : (nodes : List Node) (i : ℕ) (node : Node) → i < length nodes → node ≡ get_or nodes i node
    → can_follow (take i nodes) node ≡ true
    → each_can_follow (take i nodes) (drop i nodes) ≡ each_can_follow (take (i + 1) nodes) (drop (i + 1) nodes)
taken nodes i node within is follows =
    ap (each_can_follow (take i nodes)) (drop_more nodes i node within ∙ ap (λ (n : Node). n ∷ drop (i + 1) nodes) (sym is))
    ∙ ap (λ (b : Bool). b && each_can_follow (take i nodes ++ node ∷ []) (drop (i + 1) nodes)) follows
    ∙ ap (λ (ns : List Node). each_can_follow ns (drop (i + 1) nodes)) (sym (take_more nodes i node within ∙ ap (λ (n : Node). take i nodes ++ n ∷ []) (sym is)))

-- a node can't come next
pub not_taken : (nodes : List Node) (i : ℕ) (node : Node) → i < length nodes → node ≡ get_or nodes i node
    → can_follow (take i nodes) node ≡ false
    → each_can_follow (take i nodes) (drop i nodes) ≡ false
not_taken nodes i node within is fails =
    ap (each_can_follow (take i nodes)) (drop_more nodes i node within ∙ ap (λ (n : Node). n ∷ drop (i + 1) nodes) (sym is))
    ∙ ap (λ (b : Bool). b && each_can_follow (take i nodes ++ node ∷ []) (drop (i + 1) nodes)) fails

-- all nodes were taken
pub all_taken : (nodes : List Node) (i : ℕ) → length nodes ≤ i
    → each_can_follow (take i nodes) (drop i nodes) ≡ not (is_on_way nodes)
all_taken nodes i past =
    ap (each_can_follow (take i nodes)) (drop_of_length-le nodes past) ∙ ap (λ (ns : List Node). not (is_on_way ns)) (take_all i nodes past)

-- one more step is done of so many
pub step_up : (nodes : List Node) (steps i n : ℕ) → i < steps
    → steps_up nodes (steps - (i + 1)) (parent_or_root (node_at nodes n)) ≡ steps_up nodes (steps - i) n
step_up nodes steps i n some =
    let k : steps - i ≡ suc (steps - (i + 1)) = omega arith in
    rw k refl

pub steps_done : (nodes : List Node) (steps i n : ℕ) → steps ≤ i → steps_up nodes (steps - i) n ≡ n
steps_done nodes steps i n past =
    let k : steps - i ≡ 0 = omega arith in
    rw k refl

pub utf8_yes : (bs : List ℕ) → IsUtf8 bs → is_utf8 bs ≡ true
utf8_yes bs h = is_utf8-from_IsUtf8 bs h

pub utf8_no : (bs : List ℕ) → (IsUtf8 bs → ⊥) → is_utf8 bs ≡ false
utf8_no bs none =
    elim (decided (is_utf8 bs)) [
      | inl valid ↦ absurd (none (IsUtf8-from_is_utf8 bs valid))
      | inr other ↦ other
    ]

no_child_of : (o : Option ℕ) → is_none o ≡ true → o ≡ None
no_child_of None h = refl
no_child_of (Some n) h = cc

short_text : (kind : NodeKind) → is_document_kind kind ≡ true → HasTextWithin kind
short_text Directory h = tt
short_text (File text) h =
    let short = (and_parts (nat_le (length text) TEXT_LIMIT) _ h).0 in
    grind (arith, nat_tests)

follower_fits : (before : List Node) (node : Node) → can_follow before node ≡ true → Fits before node
follower_fits before node h =
    let all = and_parts (has_place before node && is_document_name node.name && is_document_kind node.kind) _ h in
    let kinded = and_parts (has_place before node && is_document_name node.name) (is_document_kind node.kind) all.0 in
    let named = and_parts (has_place before node) (is_document_name node.name) kinded.0 in
    let near = and_parts (is_directory before node.parent && is_none (child before node.parent node.name)) _ named.0 in
    let place = and_parts (is_directory before node.parent) (is_none (child before node.parent node.name)) near.0 in
    record {
      parent = place.0;
      fresh = no_child_of (child before node.parent node.name) place.1;
      name = (and_parts (is_name node.name) _ named.1).0;
      text = short_text node.kind kinded.1;
    }

each_fits : (before nodes : List Node) → each_can_follow before nodes ≡ true → EachFits before nodes
each_fits before [] h = tt
each_fits before (node ∷ nodes) h =
    let parts = and_parts (can_follow before node) _ h in
    (follower_fits before node parts.0, each_fits (before ++ node ∷ []) nodes parts.1)

pub nodes_are_tree : (nodes : List Node) → are_of_a_document nodes ≡ true → IsTree nodes
nodes_are_tree nodes h =
    let all = and_parts (nat_le (directories nodes) DIRECTORY_LIMIT && nat_le (files nodes) FILE_LIMIT) (each_can_follow [] nodes) h in
    let few = and_parts (nat_le (directories nodes) DIRECTORY_LIMIT) (nat_le (files nodes) FILE_LIMIT) all.0 in
    record {
      each_fits = each_fits [] nodes all.1;
      few_directories = grind (arith, nat_tests);
      few_files = grind (arith, nat_tests);
    }
