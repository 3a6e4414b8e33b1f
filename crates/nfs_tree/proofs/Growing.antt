-- Adding an entry to a tree gives a tree.
use Rattle.std.proofs.Common.{◌≡◌, ℕ, ◌+◌, ◌≤◌, ◌==◌, Bool, true, false, List, [], ◌∷◌, ◌++◌, length, Some, None, refl, sym, ap, subst, ◌∙◌, arith, inl, inr, length-append}
use Rattle.std.specs.List.{list_all}
use Rattle.std.specs.Prelude.{◌||◌}
use Rattle.std.proofs.lemmas.Bool.{ltb-false}
use Rattle.std.proofs.lemmas.Bool.Decides.{nat_tests}
use Rattle.nfs_tree.specs.declared.node.Node.{Node}
use Rattle.nfs_tree.specs.declared.node.NodeKind.{NodeKind}
use Rattle.nfs_tree.specs.declared.node.NodeKind.TheVariants.{Directory, File}
use Rattle.nfs_tree.specs.declared.tree.TheConstants.{FILE_LIMIT, DIRECTORY_LIMIT}
use Rattle.nfs_tree.specs.Building.{Way, way, names_of, chain, kind_before, new_directories, is_file_too_many, is_too_many}
use Rattle.nfs_tree.specs.Tree.{Files, is_name, is_directory, is_directory_kind, child, directories, files, HasTextWithin, EachFits, IsTree}
use Rattle.nfs_tree.proofs.Paths.{names_are_names}
use Rattle.nfs_tree.proofs.Nodes.{and_parts, option_cases, directory_next, directory_within, ParentsWithin, parents_append, parents_more, parents_of, no_child, fits_append, directories_append, files_append}

pub or_parts : (a b : Bool) → (a || b) ≡ false → (a ≡ false) × (b ≡ false)
or_parts true b h = cc
or_parts false b h = (refl, h)

-- there is no child with the first of the names in the directory
abbrev pub IsFresh : List Node → ℕ → List (List ℕ) → Type 0
IsFresh nodes parent [] = Unit {0}
IsFresh nodes parent (name ∷ names) = child nodes parent name ≡ None

pub way_fresh : (nodes : List Node) (from : ℕ) (names : List (List ℕ)) → IsFresh nodes (way nodes from names).end (way nodes from names).missing
way_fresh nodes from [] = tt
way_fresh nodes from (name ∷ names) =
    elim (option_cases (child nodes from name)) [
      | inl none ↦ rw none none
      | inr some ↦ rw some.1 (way_fresh nodes some.0 names)
    ]

pub way_names : (nodes : List Node) (from : ℕ) (names : List (List ℕ)) → list_all is_name names ≡ true → list_all is_name (way nodes from names).missing ≡ true
way_names nodes from [] h = refl
way_names nodes from (name ∷ names) h =
    elim (option_cases (child nodes from name)) [
      | inl none ↦ rw none h
      | inr some ↦ rw some.1 (way_names nodes some.0 names (and_parts (is_name name) (list_all is_name names) h).1)
    ]

last_empty : (next : List ℕ) (names : List (List ℕ)) → (length (next ∷ names) == 0) ≡ false
last_empty next names = grind (arith, nat_tests)

pub kind_of_next : (next : List ℕ) (names : List (List ℕ)) (kind : NodeKind) → kind_before (next ∷ names) kind ≡ Directory
kind_of_next next names kind = rw (last_empty next names) refl

text_before : (names : List (List ℕ)) (kind : NodeKind) → HasTextWithin kind → HasTextWithin (kind_before names kind)
text_before [] kind t = t
text_before (name ∷ names) kind t = rw (kind_of_next name names kind) tt

chain_fits : (before : List Node) (parent : ℕ) (names : List (List ℕ)) (kind : NodeKind) → ParentsWithin (length before) before → is_directory before parent ≡ true → IsFresh before parent names → list_all is_name names ≡ true → HasTextWithin kind → EachFits before (chain parent (length before + 1) names kind)
chain_fits before parent [] kind p directory fresh are_names text = tt
chain_fits before parent (name ∷ []) kind p directory fresh are_names text =
    (record { parent = directory; fresh = fresh; name = (and_parts (is_name name) true are_names).0; text = text }, tt)
chain_fits before parent (name ∷ next ∷ names) kind p directory fresh are_names text =
    let both = and_parts (is_name name) (list_all is_name (next ∷ names)) are_names in
    let node : Node = record { parent = parent; name = name; kind = kind_before (next ∷ names) kind } in
    let more : List Node = before ++ node ∷ [] in
    let long : length more ≡ length before + 1 = length-append before (node ∷ []) in
    let within : parent ≤ length before = directory_within before parent directory in
    let of_more : ParentsWithin (length before) more = parents_append (length before) before (node ∷ []) p (within, tt) in
    let fresh_next : child more (length before + 1) next ≡ None = no_child (length before) (length before + 1) next more (omega arith) of_more in
    let rest : EachFits more (chain (length before + 1) (length more + 1) (next ∷ names) kind) =
    chain_fits more (length before + 1) (next ∷ names) kind (parents_more (length before) (length more) more (omega arith) of_more) (directory_next before node ∙ ap is_directory_kind (kind_of_next next names kind)) fresh_next both.1 text in (
      record { parent = directory; fresh = fresh; name = both.0; text = text_before (next ∷ names) kind text },
      subst (λ (n : ℕ). EachFits more (chain (length before + 1) (n + 1) (next ∷ names) kind)) long rest,
    )

-- how many directories and files there are in a chain
chain_directories : (parent number : ℕ) (names : List (List ℕ)) (kind : NodeKind) → directories (chain parent number names kind) ≡ new_directories kind (length names)
chain_directories parent number [] Directory = refl
chain_directories parent number [] (File text) = refl
chain_directories parent number (name ∷ []) Directory = refl
chain_directories parent number (name ∷ []) (File text) = refl
chain_directories parent number (name ∷ next ∷ names) Directory =
    rw (kind_of_next next names Directory) (omega (arith, chain_directories number (number + 1) (next ∷ names) Directory))
chain_directories parent number (name ∷ next ∷ names) (File text) =
    rw (kind_of_next next names (File text)) (omega (arith, chain_directories number (number + 1) (next ∷ names) (File text)))

abbrev new_files : NodeKind → ℕ
new_files Directory = 0
new_files (File text) = 1

chain_files : (parent number : ℕ) (names : List (List ℕ)) (kind : NodeKind) → files (chain parent number names kind) ≤ new_files kind
chain_files parent number [] kind = omega arith
chain_files parent number (name ∷ []) Directory = omega arith
chain_files parent number (name ∷ []) (File text) = omega arith
chain_files parent number (name ∷ next ∷ names) kind =
    rw (kind_of_next next names kind) (chain_files number (number + 1) (next ∷ names) kind)

-- there is room for one more node of this kind, and a file's text isn't too long
room_for : (nodes : List Node) (kind : NodeKind) → files nodes ≤ FILE_LIMIT → is_file_too_many nodes kind ≡ false → (files nodes + new_files kind ≤ FILE_LIMIT) × HasTextWithin kind
room_for nodes Directory few h = (omega arith, tt)
room_for nodes (File text) few h = (grind (arith, nat_tests), grind (arith, nat_tests))

pub tree_grows : (nodes : List Node) (end : ℕ) (missing : List (List ℕ)) (kind : NodeKind) → IsTree nodes → is_too_many nodes kind (length missing) ≡ false → is_directory nodes end ≡ true → IsFresh nodes end missing → list_all is_name missing ≡ true → IsTree (nodes ++ chain end (length nodes + 1) missing kind)
tree_grows nodes end missing kind tree few directory fresh are_names =
    let limits = or_parts (is_file_too_many nodes kind) _ few in
    let room = room_for nodes kind tree.few_files limits.0 in
    let directories_fit : directories nodes + new_directories kind (length missing) ≤ DIRECTORY_LIMIT = ltb-false _ _ limits.1 in
    record {
      each_fits = fits_append [] nodes (chain end (length nodes + 1) missing kind) tree.each_fits (chain_fits nodes end missing kind (parents_of [] nodes tt tree.each_fits) directory fresh are_names room.1);
      few_directories = omega (arith, directories_append nodes (chain end (length nodes + 1) missing kind), chain_directories end (length nodes + 1) missing kind, directories_fit);
      few_files = omega (arith, files_append nodes (chain end (length nodes + 1) missing kind), chain_files end (length nodes + 1) missing kind, room.0);
    }

-- the tree after an entry was added, given which of the path's names were found
pub entry_grows : (old : Files) (path : List ℕ) (names : List (List ℕ)) (end : ℕ) (missing : List (List ℕ)) (kind : NodeKind) (number : ℕ) (more new : List Node) → IsTree old.nodes → names_of path ≡ Some names → way old.nodes 0 names ≡ record { end = end; missing = missing } → is_too_many old.nodes kind (length missing) ≡ false → is_directory old.nodes end ≡ true → number ≡ length old.nodes + 1 → more ≡ chain end number missing kind → new ≡ old.nodes ++ more → IsTree new
entry_grows old path names end missing kind number more new tree are w few directory next chained is =
    let way_end : (way old.nodes 0 names).end ≡ end = ap (λ (v : Way). v.end) w in
    let way_missing : (way old.nodes 0 names).missing ≡ missing = ap (λ (v : Way). v.missing) w in
    let fresh : IsFresh old.nodes end missing = subst (λ (v : Way). IsFresh old.nodes v.end v.missing) w (way_fresh old.nodes 0 names) in
    let are_names : list_all is_name missing ≡ true = ap (list_all is_name) (sym way_missing) ∙ way_names old.nodes 0 names (names_are_names path names are) in
    let same : new ≡ old.nodes ++ chain end (length old.nodes + 1) missing kind =
    is ∙ ap (λ ns. old.nodes ++ ns) (chained ∙ ap (λ n. chain end n missing kind) next) in
    subst IsTree (sym same) (tree_grows old.nodes end missing kind tree few directory fresh are_names)
