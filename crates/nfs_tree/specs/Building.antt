-- The tree that a document describes: its entries are added to the tree one after the other.
use Rattle.std.specs.Prelude.{◌≡◌, ℕ, ◌+◌, ◌-◌, ◌≤◌, ◌==◌, nat_le, nat_lt, Bool, true, false, not, ◌&&◌, ◌||◌, if◌then◌else◌, List, [], ◌∷◌, ◌++◌, length, Option, Some, None, Result, Ok, Err}
use Rattle.std.specs.List.{list_all}
use Rattle.nfs_tree.specs.declared.document.Document.{Document}
use Rattle.nfs_tree.specs.declared.node.TreeEntry.{TreeEntry}
use Rattle.nfs_tree.specs.declared.node.Node.{Node}
use Rattle.nfs_tree.specs.declared.node.NodeKind.{NodeKind}
use Rattle.nfs_tree.specs.declared.node.NodeKind.TheVariants.{Directory, File}
use Rattle.nfs_tree.specs.declared.path.TheConstants.{PATH_LIMIT}
use Rattle.nfs_tree.specs.declared.tree.TheConstants.{FILE_LIMIT, DIRECTORY_LIMIT, TEXT_LIMIT}
use Rattle.nfs_tree.specs.declared.tree_error.TreeError.{TreeError}
use Rattle.nfs_tree.specs.declared.tree_error.TreeError.TheVariants as errors
use Rattle.nfs_tree.specs.Document.{document_at}
use Rattle.nfs_tree.specs.Tree.{Files, slash, is_name, is_directory_kind, is_directory, child, directories, files}

-- the number of an error
abbrev pub number_of : TreeError → ℕ
number_of errors.Syntax = 1
number_of errors.Name = 2
number_of errors.TooMany = 3
number_of errors.Duplicate = 4
number_of errors.Memory = 5

-- names joined by slashes
abbrev pub join_names : List (List ℕ) → List ℕ
join_names [] = []
join_names (name ∷ []) = name
join_names (name ∷ next ∷ names) = name ++ slash ∷ join_names (next ∷ names)

-- These 1 to 8 names, joined by slashes, give the path.
pub record IsPath (names : List (List ℕ)) (path : List ℕ) : Type 0 where
  pub is_joined : join_names names ≡ path
  pub is_some : 1 ≤ length names
  pub is_few : length names ≤ PATH_LIMIT
  pub are_names : list_all is_name names ≡ true

-- the pieces of a path: the bytes between the slashes
abbrev pub longer_first : ℕ → List (List ℕ) → List (List ℕ)
longer_first b [] = (b ∷ []) ∷ []
longer_first b (piece ∷ pieces) = (b ∷ piece) ∷ pieces

abbrev pub pieces : List ℕ → List (List ℕ)
pieces [] = [] ∷ []
pieces (b ∷ bytes) = if b == slash then [] ∷ pieces bytes else longer_first b (pieces bytes)

-- the names of a path, if it consists of valid names
abbrev pub names_of : List ℕ → Option (List (List ℕ))
names_of path = if nat_le (length (pieces path)) PATH_LIMIT && list_all is_name (pieces path)
    then Some (pieces path) else None

-- The names of a path are exactly those that give the path when they are joined by slashes.
pub record PathsAreJoinedNames : Type 0 where
  pub sound : (path : List ℕ) (names : List (List ℕ)) → names_of path ≡ Some names
      → IsPath names path
  pub complete : (path : List ℕ) (names : List (List ℕ)) → IsPath names path
      → names_of path ≡ Some names

-- How far names lead from a node, to `end`. The missing names are the others: the first of them isn't in `end`.
pub record Way : Type 0 where
  pub end : ℕ
  pub missing : List (List ℕ)

abbrev pub next_on : Option ℕ → Way → (ℕ → Way) → Way
next_on None stop go = stop
next_on (Some node) stop go = go node

abbrev pub way : List Node → ℕ → List (List ℕ) → Way
way nodes from [] = record { end = from; missing = [] }
way nodes from (name ∷ names) = next_on (child nodes from name)
    (record { end = from; missing = name ∷ names }) (λ node. way nodes node names)

-- How many directories have to be added for an entry: one for each missing name, except the last one if the entry is a
-- file.
abbrev pub new_directories : NodeKind → ℕ → ℕ
new_directories Directory missing = missing
new_directories (File text) missing = missing - 1

-- a file's text is too long, or there is no room for another file
abbrev pub is_file_too_many : List Node → NodeKind → Bool
is_file_too_many nodes Directory = false
is_file_too_many nodes (File text) =
    nat_lt TEXT_LIMIT (length text) || nat_le FILE_LIMIT (files nodes)

abbrev pub is_too_many : List Node → NodeKind → ℕ → Bool
is_too_many nodes kind missing = is_file_too_many nodes kind
    || nat_lt DIRECTORY_LIMIT (directories nodes + new_directories kind missing)

-- The way ends at a file, or the entry is a file and its whole path is already there.
abbrev pub is_taken : List Node → NodeKind → Way → Bool
is_taken nodes kind w =
    not (is_directory nodes w.end) || ((length w.missing == 0) && not (is_directory_kind kind))

-- A node for each of the names, the first in this parent and each other in the one before it, numbered from `number`
-- on. All are directories, except that the last has the given kind.
abbrev pub kind_before : List (List ℕ) → NodeKind → NodeKind
kind_before names kind = if length names == 0 then kind else Directory

abbrev pub chain : ℕ → ℕ → List (List ℕ) → NodeKind → List Node
chain parent number [] kind = []
chain parent number (name ∷ names) kind =
    record { parent = parent; name = name; kind = kind_before names kind }
    ∷ chain number (number + 1) names kind

-- the tree with an entry added whose way is this, or why it can't be added
abbrev pub add_on : Files → NodeKind → Way → Result Files TreeError
add_on old kind w =
    if is_too_many old.nodes kind (length w.missing) then Err errors.TooMany
    else if is_taken old.nodes kind w then Err errors.Duplicate
    else Ok (record old { nodes = old.nodes ++ chain w.end (length old.nodes + 1) w.missing kind })

abbrev pub add_named : Files → NodeKind → Option (List (List ℕ)) → Result Files TreeError
add_named old kind None = Err errors.Name
add_named old kind (Some names) = add_on old kind (way old.nodes 0 names)

abbrev pub add_entry : Files → TreeEntry → Result Files TreeError
add_entry old entry = add_named old entry.kind (names_of entry.path)

-- the tree with all entries added, or why the first one that can't be added is refused
infixl 10 ◌>>=◌
abbrev pub ◌>>=◌ : {A B : Type 0} → Result A TreeError → (A → Result B TreeError)
    → Result B TreeError
(Ok x) >>= f = f x
(Err e) >>= f = Err e

abbrev pub add_entries : Files → List TreeEntry → Result Files TreeError
add_entries old [] = Ok old
add_entries old (entry ∷ entries) = add_entry old entry >>= λ new. add_entries new entries

-- the tree of a document, built from a tree that has only the root
abbrev pub tree_of_document : Document → Result Files TreeError
tree_of_document d = add_entries (record { nodes = []; policy = d.policy }) d.entries

-- the tree of a text, or why the text describes none
abbrev pub or_syntax : {A : Type 0} → Option A → Result A TreeError
or_syntax None = Err errors.Syntax
or_syntax (Some x) = Ok x

abbrev pub tree_of : List ℕ → Result Files TreeError
tree_of text = or_syntax (document_at text) >>= tree_of_document

-- What a function returned are the names of a path, or Name if the path doesn't consist of valid names.
abbrev pub FailsToName : TreeError → Option (List (List ℕ)) → Type 0
FailsToName errors.Memory names = Unit {0}
FailsToName errors.Name names = names ≡ None
FailsToName e names = ⊥

abbrev pub Names : Result (List (List ℕ)) TreeError → Option (List (List ℕ)) → Type 0
Names (Ok x) names = names ≡ Some x
Names (Err e) names = FailsToName e names

-- What a function returned is what was to be made, unless it ran out of memory.
abbrev pub FailsToMake : {A : Type 0} → TreeError → Result A TreeError → Type 0
FailsToMake errors.Memory made = Unit {0}
FailsToMake e made = made ≡ Err e

abbrev pub Makes : {A : Type 0} → Result A TreeError → Result A TreeError → Type 0
Makes (Ok x) made = made ≡ Ok x
Makes (Err e) made = FailsToMake e made
