-- The children of a directory, in the order of a listing (RFC 7530, section 16.24).
use Rattle.std.specs.Prelude.{ℕ, suc, ◌+◌, ◌==◌, nat_lt, Bool, ◌&&◌, ◌||◌, if◌then◌else◌, List, [], ◌∷◌, ◌++◌, filter, Option, Some, None}
use Rattle.std.specs.List.{list_any}
use Rattle.nfs_tree.specs.declared.node.Node.{Node}
use Rattle.nfs_tree.specs.Tree.{node_at}

-- the numbers of the nodes in a directory, in increasing order, among nodes that are numbered from `number` on
abbrev pub children_from : ℕ → List Node → ℕ → List ℕ
children_from number [] directory = []
children_from number (node ∷ nodes) directory =
    if node.parent == directory then number ∷ children_from (suc number) nodes directory
    else children_from (suc number) nodes directory

abbrev pub children_of : List Node → ℕ → List ℕ
children_of nodes directory = children_from 1 nodes directory

-- The cookie of a child says where a listing goes on: behind it. 0 is no child's: there a listing begins.
abbrev pub cookie_of : ℕ → ℕ
cookie_of node = node + 2

abbrev pub is_cookie : List Node → ℕ → ℕ → Bool
is_cookie nodes directory cookie =
    (cookie == 0) || list_any (λ child. cookie_of child == cookie) (children_of nodes directory)

-- the children behind a cookie
abbrev pub children_after : List Node → ℕ → ℕ → List ℕ
children_after nodes directory cookie =
    filter (λ child. nat_lt cookie (cookie_of child)) (children_of nodes directory)

-- the children behind a cookie, found in one pass over the nodes, which are numbered from `number` on
abbrev pub listed : ℕ → Node → ℕ → ℕ → List ℕ
listed number node directory cookie =
    if (node.parent == directory) && nat_lt cookie (cookie_of number) then number ∷ [] else []

abbrev pub listed_from : ℕ → List Node → ℕ → ℕ → List ℕ
listed_from number [] directory cookie = []
listed_from number (node ∷ nodes) directory cookie =
    listed number node directory cookie ++ listed_from (number + 1) nodes directory cookie

-- the name of a node; the root has none
abbrev pub name_of_node : Option Node → List ℕ
name_of_node None = []
name_of_node (Some node) = node.name

abbrev pub name_of : List Node → ℕ → List ℕ
name_of nodes node = name_of_node (node_at nodes node)
