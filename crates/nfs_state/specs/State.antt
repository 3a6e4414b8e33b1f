-- The state that the rules of the operations refer to, and the journal of its changes.
use Rattle.std.specs.Prelude.{ℕ, zero, suc, Bool, false, ◌||◌, List, [], ◌∷◌, ◌++◌, replicate, Option, Some, None}
use Rattle.std.specs.List.{list_any}
use Rattle.nfs_forms.specs.declared.client_id.ClientId.{ClientId}
use Rattle.nfs_owners.specs.declared.client_record.ClientState.{ClientState}
use Rattle.nfs_state.specs.declared.entry.Entry.{Entry}
use Rattle.nfs_owners.specs.Registry.{Registry, no_clients}
use Rattle.nfs_state.specs.Owners.{KnownOwner}
use Rattle.nfs_state.specs.Files.{FileState, first_file}
use Rattle.nfs_share.specs.declared.open_state.OpenState.{OpenState}
use Rattle.nfs_share.specs.declared.delegation.Delegation.{Delegation}
use Rattle.nfs_share.specs.Delegations.{is_lent_to}
use Rattle.nfs_locks.specs.Locks.{ByteLocks, is_lock_of_client}
use Rattle.nfs_share.specs.Opens.{is_of_client}
use Rattle.nfs_tree.specs.declared.node.Node.{Node}
use Rattle.nfs_tree.specs.declared.policy.Policy.{Policy}
use Rattle.nfs_tree.specs.Tree.{node_count, text_of}

pub record State : Type 0 where
  pub clients : Registry
  -- the owners in the order in which they were recorded
  pub owners : List KnownOwner
  -- the opens of each node, by its number, in the order in which they came
  pub opens : List (List OpenState)
  -- the lock states of each node, as the opens are
  pub locks : List (List ByteLocks)
  -- the delegations of each node, as the opens are
  pub delegations : List (List Delegation)
  -- the number that was given to a state last; 0 before the first
  pub last_state : ℕ
  -- the files, ordered by the numbers of their nodes
  pub files : List FileState

-- the file of the node with this number before any client changes it, if the node has a text
abbrev pub initial_file : ℕ → Option (List ℕ) → List FileState
initial_file node None = []
initial_file node (Some text) = first_file node text ∷ []

-- the files among the nodes with lower numbers
abbrev pub files_below : List Node → ℕ → List FileState
files_below nodes zero = []
files_below nodes (suc node) = files_below nodes node ++ initial_file node (text_of nodes node)

abbrev pub initial_files : List Node → List FileState
initial_files nodes = files_below nodes (node_count nodes)

-- a server with these nodes to which no client has come
abbrev pub empty_server : List Node → State
empty_server nodes = record {
  clients = no_clients;
  owners = [];
  opens = replicate (node_count nodes) [];
  locks = replicate (node_count nodes) [];
  delegations = replicate (node_count nodes) [];
  last_state = 0;
  files = initial_files nodes;
}

-- What the server was started with, and the journal's entries in order, numbered from 0.
pub record History : Type 0 where
  -- the nodes of the tree
  pub nodes : List Node
  -- the number of the server's run, the upper half of each clientid
  pub epoch : ℕ
  -- the lease in seconds
  pub lease : ℕ
  pub policy : Policy
  pub entries : List Entry

-- whether the client has state (RFC 7530, section 9.1.1): an open, also one of an unconfirmed owner, a lock state, or a
-- delegation
abbrev pub has_state : State → ClientId → Bool
has_state state client =
    list_any (list_any (is_of_client client)) state.opens
    || list_any (list_any (is_lock_of_client client)) state.locks
    || list_any (list_any (is_lent_to client)) state.delegations

-- whether the client of a record has state, if there is a record
abbrev pub record_has_state : State → Option ClientState → Bool
record_has_state state None = false
record_has_state state (Some r) = has_state state r.client
