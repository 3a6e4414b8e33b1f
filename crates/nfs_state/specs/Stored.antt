-- What the server stores, and the state that it represents.
use Rattle.std.specs.Prelude.{ℕ, List, [], map, replicate}
use Rattle.nfs_state.specs.Files.{FileState}
use Rattle.nfs_state.specs.Owners.{KnownOwner}
use Rattle.nfs_state.specs.State.{State, initial_files}
use Rattle.nfs_owners.specs.declared.owner.Owner.{Owner}
use Rattle.nfs_owners.specs.Registry.{Registry, no_clients}
use Rattle.nfs_locks.specs.StoredLocks.{StoredLock, byte_locks}
use Rattle.nfs_share.specs.declared.open_state.OpenState.{OpenState}
use Rattle.nfs_share.specs.declared.delegation.Delegation.{Delegation}
use Rattle.nfs_tree.specs.declared.node.Node.{Node}
use Rattle.nfs_tree.specs.Tree.{node_count}

pub record Stored : Type 0 where
  pub clients : Registry
  -- the owners, each with what is stored of the request that is kept for it
  pub owners : List Owner
  -- the opens of each node, by its number
  pub opens : List (List OpenState)
  -- the lock states of each node, by its number
  pub locks : List (List StoredLock)
  -- the delegations of each node, by its number
  pub delegations : List (List Delegation)
  -- the number that was given to a state last
  pub last_state : ℕ
  -- the files, ordered by the numbers of their nodes
  pub files : List FileState

-- an owner without what is kept for it, which its entry has
abbrev pub known_owner : Owner → KnownOwner
known_owner o = record {
  name = o.name;
  confirmed = o.state.confirmed;
  recording_entry = o.state.recorded;
  kept_entry = o.state.number;
}

abbrev pub meaning : Stored → State
meaning stored = record {
  clients = stored.clients;
  owners = map known_owner stored.owners;
  opens = stored.opens;
  locks = map (map byte_locks) stored.locks;
  delegations = stored.delegations;
  last_state = stored.last_state;
  files = stored.files;
}

-- what is stored of these nodes before any client has come
abbrev pub empty_store : List Node → Stored
empty_store nodes = record {
  clients = no_clients;
  owners = [];
  opens = replicate (node_count nodes) [];
  locks = replicate (node_count nodes) [];
  delegations = replicate (node_count nodes) [];
  last_state = 0;
  files = initial_files nodes;
}
