-- Which lists of nodes are those of some document. A document's directories come first, then its files. Each path
-- brings the directories on it that are missing, so after a file a directory comes only on the way to another file.
use Rattle.std.specs.Prelude.{ℕ, zero, suc, ◌-◌, ◌==◌, nat_le, nat_lt, Bool, true, not, ◌&&◌, ◌||◌, if◌then◌else◌, List, [], ◌∷◌, ◌++◌, length, slice_get, Option, Some, None, Result, Ok, Err, is_none}
use Rattle.std.specs.Str.{is_utf8}
use Rattle.nfs_tree.specs.declared.node.Node.{Node}
use Rattle.nfs_tree.specs.declared.node.NodeKind.{NodeKind}
use Rattle.nfs_tree.specs.declared.node.NodeKind.TheVariants.{Directory, File}
use Rattle.nfs_tree.specs.declared.path.TheConstants.{PATH_LIMIT}
use Rattle.nfs_tree.specs.declared.policy.Policy.{Policy}
use Rattle.nfs_tree.specs.declared.tree.TheConstants.{ROOT, FILE_LIMIT, DIRECTORY_LIMIT, TEXT_LIMIT}
use Rattle.nfs_tree.specs.declared.tree_error.TreeError.{TreeError}
use Rattle.nfs_tree.specs.declared.tree_error.TreeError.TheVariants.{Syntax}
use Rattle.nfs_tree.specs.Tree.{Files, is_name, is_directory, is_directory_node, child, node_at, directories, files}

-- the directory that contains the node, or the root for the root
abbrev pub parent_or_root : Option Node → ℕ
parent_or_root None = ROOT
parent_or_root (Some node) = node.parent

-- where so many steps lead, each from a node to its directory
abbrev pub steps_up : List Node → ℕ → ℕ → ℕ
steps_up nodes zero n = n
steps_up nodes (suc steps) n = steps_up nodes steps (parent_or_root (node_at nodes n))

-- a document is UTF-8, and so is each text in it
abbrev pub is_document_kind : NodeKind → Bool
is_document_kind Directory = true
is_document_kind (File text) = nat_le (length text) TEXT_LIMIT && is_utf8 text

-- a name that a path of a document can have
abbrev pub is_document_name : List ℕ → Bool
is_document_name name = is_name name && is_utf8 name

-- the node that came last is a directory, and came after a file: it is on the way to another file
abbrev pub is_on_way : List Node → Bool
is_on_way nodes = nat_lt 0 (files nodes) && is_directory_node (slice_get nodes (length nodes - 1))

-- The node's directory is among the nodes that came before, or is the root, and has no child with the node's name. The
-- node's path has at most 8 names, of which the last one is the node's.
abbrev pub has_place : List Node → Node → Bool
has_place before node = is_directory before node.parent
    && is_none (child before node.parent node.name)
    && (steps_up before (PATH_LIMIT - 1) node.parent == ROOT)

-- the node can come next after these
abbrev pub can_follow : List Node → Node → Bool
can_follow before node = has_place before node
    && is_document_name node.name
    && is_document_kind node.kind
    && (not (is_on_way before) || (node.parent == length before))

-- each of the nodes can come after those before it, and the last one isn't on the way to another file
abbrev pub each_can_follow : List Node → List Node → Bool
each_can_follow before [] = not (is_on_way before)
each_can_follow before (node ∷ nodes) =
    can_follow before node && each_can_follow (before ++ node ∷ []) nodes

-- the nodes are those of some document
abbrev pub are_of_a_document : List Node → Bool
are_of_a_document nodes = nat_le (directories nodes) DIRECTORY_LIMIT
    && nat_le (files nodes) FILE_LIMIT
    && each_can_follow [] nodes

-- the tree with these nodes, or Syntax if no document gives them
abbrev pub tree_of_nodes : List Node → Policy → Result Files TreeError
tree_of_nodes nodes policy =
    if are_of_a_document nodes then Ok (record { nodes = nodes; policy = policy }) else Err Syntax
