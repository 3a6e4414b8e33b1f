-- What the entries of a document are in its tree, and that the tree contains nothing else.
use Rattle.std.specs.Prelude.{◌≡◌, ℕ, ◌<◌, ◌≤◌, true, List, [], ◌∷◌, take, Some, Ok}
use Rattle.std.specs.List.{All, AllPairs, Any}
use Rattle.nfs_tree.specs.declared.document.Document.{Document}
use Rattle.nfs_tree.specs.declared.node.TreeEntry.{TreeEntry}
use Rattle.nfs_tree.specs.declared.node.Node.{Node}
use Rattle.nfs_tree.specs.declared.node.NodeKind.{NodeKind}
use Rattle.nfs_tree.specs.declared.node.NodeKind.TheVariants.{Directory, File}
use Rattle.nfs_tree.specs.declared.tree.TheConstants.{ROOT}
use Rattle.nfs_tree.specs.Building.{IsPath, tree_of}
use Rattle.nfs_tree.specs.Document.{document_at}
use Rattle.nfs_tree.specs.Tree.{Files, child, is_directory, node_count, text_of}

-- Names lead from one node to another: each name to the child that has it.
abbrev pub Leads : List Node → ℕ → List (List ℕ) → ℕ → Type 0
Leads nodes from [] to = from ≡ to
Leads nodes from (name ∷ names) to =
    (next : ℕ) × (child nodes from name ≡ Some next) × Leads nodes next names to

-- The node is a directory, or a file with this text.
abbrev pub IsOfKind : List Node → ℕ → NodeKind → Type 0
IsOfKind nodes n Directory = is_directory nodes n ≡ true
IsOfKind nodes n (File text) = text_of nodes n ≡ Some text

-- The names of the entry's path lead from the root to the node.
pub record LeadsTo (nodes : List Node) (entry : TreeEntry) (n : ℕ) : Type 0 where
  pub names : List (List ℕ)
  pub are_names : IsPath names entry.path
  pub leads : Leads nodes ROOT names n

-- The first `count` names of the entry's path lead from the root to the node.
pub record IsOnWay (nodes : List Node) (n : ℕ) (entry : TreeEntry) : Type 0 where
  pub names : List (List ℕ)
  pub are_names : IsPath names entry.path
  pub count : ℕ
  pub leads : Leads nodes ROOT (take count names) n

-- The entry's path leads to a node of its kind.
abbrev pub IsThere : List Node → TreeEntry → Type 0
IsThere nodes entry = (n : ℕ) × LeadsTo nodes entry n × IsOfKind nodes n entry.kind

-- The entry is a file with this text, and its path leads to the node.
abbrev pub IsFileAt : List Node → ℕ → List ℕ → TreeEntry → Type 0
IsFileAt nodes n text entry = LeadsTo nodes entry n × (entry.kind ≡ File text)

-- If two entries have the same path, both are directories.
abbrev pub Agree : TreeEntry → TreeEntry → Type 0
Agree one other = one.path ≡ other.path → (one.kind ≡ Directory) × (other.kind ≡ Directory)

-- Only these names lead from the root to the node.
abbrev pub IsOneWay : List Node → ℕ → List (List ℕ) → Type 0
IsOneWay nodes n names = (others : List (List ℕ)) → Leads nodes ROOT others n → others ≡ names

-- The nodes are those of the entries: each entry is in the tree, each node other than the root is on the way to an
-- entry, each file is that of an entry, and only one way leads to each node.
pub record IsTreeOf (entries : List TreeEntry) (nodes : List Node) : Type 0 where
  pub each_entry : All (IsThere nodes) entries
  pub each_node : (n : ℕ) → 1 ≤ n → n < node_count nodes → Any (IsOnWay nodes n) entries
  pub each_file :
      (n : ℕ) (text : List ℕ) → text_of nodes n ≡ Some text → Any (IsFileAt nodes n text) entries
  pub agree : AllPairs Agree entries
  pub one_way : (n : ℕ) (names : List (List ℕ)) → Leads nodes ROOT names n → IsOneWay nodes n names

-- The tree of a text is that of the text's document: it has the document's policy, and the nodes of its entries.
abbrev pub TreesAreTheirEntries : Type 0
TreesAreTheirEntries =
    (text : List ℕ) (tree : Files) → tree_of text ≡ Ok tree
    → (document : Document)
    × (document_at text ≡ Some document)
    × (tree.policy ≡ document.policy)
    × IsTreeOf document.entries tree.nodes
