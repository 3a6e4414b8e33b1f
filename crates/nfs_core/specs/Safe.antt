-- What holds of the state at all times (RFC 7530, sections 9.1, 9.9, 9.11, 10.4, 16.10, 16.16 and 16.33).
use Rattle.std.specs.Prelude.{ℕ, ◌≡◌, ◌^◌, ◌-◌, ◌&&◌, ◌||◌, ◌++◌, ◌==◌, ◌≤◌, ◌≢◌, Bool, IsSomeAnd, IsTrue, List, [], flat_map, is_some, length, map, Option, option_and_then, slice_get}
use Rattle.std.specs.List.{AllByRecursion, IsDistinct, list_any}
use Rattle.nfs_forms.specs.ClientId.{is_same_client}
use Rattle.nfs_forms.specs.LockOwner.{is_same_lock_owner}
use Rattle.nfs_forms.specs.OpenOwner.{is_same_owner}
use Rattle.nfs_locks.specs.AllLocks.{locks_of}
use Rattle.nfs_locks.specs.Laws.{AllLocksAreCompatible}
use Rattle.nfs_locks.specs.Locks.{ByteLocks, stateid_of as lock_stateid}
use Rattle.nfs_rules.specs.Sequences.{counts}
use Rattle.nfs_state.specs.Entries.{call_of}
use Rattle.nfs_state.specs.Files.{FileState}
use Rattle.nfs_state.specs.Owners.{KnownOwner, is_confirmed, owner_of}
use Rattle.nfs_state.specs.State.{State, History}
use Rattle.nfs_owners.specs.Registry.{AreRecords, Registry, record_of}
use Rattle.nfs_owners.specs.StateOwner.{is_same_state_owner, lock_owner, open_owner}
use Rattle.nfs_owners.specs.declared.client_record.ClientRecord.{ClientRecord}
use Rattle.nfs_owners.specs.declared.slots.TheConstants.{GENERATIONS}
use Rattle.nfs_owners.specs.declared.owner.TheConstants.{OWNER_LIMIT}
use Rattle.nfs_ranges.specs.Runs.{runs}
use Rattle.nfs_ranges.specs.declared.limits.TheConstants.{RUN_LIMIT}
use Rattle.nfs_state.specs.Places.{state_count}
use Rattle.nfs_state.specs.declared.entry.Call.{Call}
use Rattle.nfs_state.specs.declared.limits.TheConstants.{STATE_LIMIT}
use Rattle.nfs_tree.specs.Tree.{is_directory, node_count}
use Rattle.nfs_tree.specs.declared.node.Node.{Node}
use Rattle.nfs_tree.specs.declared.tree.TheConstants.{TEXT_LIMIT}
use Rattle.nfs_xdr.specs.Names.{is_sequenced}
use Rattle.nfs_xdr.specs.OpResult.{status_of}
use Rattle.nfs_share.specs.AllOpens.{delegations_of, opens_of}
use Rattle.nfs_share.specs.Delegations.{StandInOrder, delegation_stateid}
use Rattle.nfs_share.specs.Laws.{AllAreCompatible, AreApart, OneEach}
use Rattle.nfs_share.specs.Opens.{is_numbered, is_of_client, stateid_of as open_stateid}
use Rattle.nfs_share.specs.Share.{is_same}
use Rattle.nfs_share.specs.declared.delegation.Delegation.{Delegation}
use Rattle.nfs_share.specs.declared.open_state.OpenState.{OpenState}
use Rattle.nfs_share.specs.declared.share.Share.{Share}

-- the open's owner is known
abbrev pub HasKnownOwner : State → OpenState → Type 0
HasKnownOwner state o = IsTrue (is_some (owner_of (open_owner o.owner) state.owners))

-- the client of the open's owner has a confirmed record
abbrev pub HasLiveClient : State → OpenState → Type 0
HasLiveClient state o = IsTrue (is_some (record_of o.owner.client state.clients))

-- the owner's client has a confirmed record
abbrev pub IsOfLiveClient : State → KnownOwner → Type 0
IsOfLiveClient state o = IsTrue (is_some (record_of o.name.client state.clients))

-- each open of each node
abbrev pub EachOpen : (OpenState → Type 0) → State → Type 0
EachOpen P state = AllByRecursion (AllByRecursion P) state.opens

-- the lock state's owner is known
abbrev pub HasKnownLocker : State → ByteLocks → Type 0
HasKnownLocker state l = IsTrue (is_some (owner_of (lock_owner l.owner) state.owners))

-- the client of the lock state's owner has a confirmed record
abbrev pub HasLiveLocker : State → ByteLocks → Type 0
HasLiveLocker state l = IsTrue (is_some (record_of l.owner.client state.clients))

-- each lock state of each node
abbrev pub EachLock : (ByteLocks → Type 0) → State → Type 0
EachLock P state = AllByRecursion (AllByRecursion P) state.locks

-- The lock state belongs to the open: it names the open's number, and a confirmed owner of the same client has the
-- open (section 9.1.11).
abbrev pub bears : List KnownOwner → ByteLocks → OpenState → Bool
bears owners l o =
    is_numbered l.open_number o
    && is_of_client l.owner.client o
    && is_confirmed (open_owner o.owner) owners

-- the lock state of this node belongs to an open of the node
abbrev pub StandsUnderOpen : State → ℕ → ByteLocks → Type 0
StandsUnderOpen state node l = IsTrue (list_any (bears state.owners l) (opens_of node state.opens))

-- each lock state of each node, with the node's number
abbrev pub EachLockAt : (ℕ → ByteLocks → Type 0) → State → Type 0
EachLockAt P state = (node : ℕ) → AllByRecursion (P node) (locks_of node state.locks)

-- the client that has the delegation has a confirmed record
abbrev pub HasLiveHolder : State → Delegation → Type 0
HasLiveHolder state d = IsTrue (is_some (record_of d.client state.clients))

-- each delegation of each node
abbrev pub EachDelegation : (Delegation → Type 0) → State → Type 0
EachDelegation P state = AllByRecursion (AllByRecursion P) state.delegations

-- no delegation of the node's file stands beside another client's open or delegation that it conflicts with
abbrev pub AreApartAt : State → ℕ → Type 0
AreApartAt state node = AreApart (opens_of node state.opens) (delegations_of node state.delegations)

-- the numbers in the stateids of all opens, all lock states and all delegations (section 9.1.4)
abbrev pub numbers_of : State → List ℕ
numbers_of state =
    flat_map (map (λ (o : OpenState). o.number)) state.opens
    ++ flat_map (map (λ (l : ByteLocks). l.number)) state.locks
    ++ flat_map (map (λ (d : Delegation). d.number)) state.delegations

-- A state's seqid is one from 1 to 2^32 - 1: zero is special (section 9.1.4).
abbrev pub IsSeqid : ℕ → Type 0
IsSeqid seqid = (1 ≤ seqid) × (seqid ≤ 2 ^ 32 - 1)

-- the stateid of each open, each lock state and each delegation has such a seqid
pub record HaveSeqids (state : State) : Type 0 where
  pub opens : EachOpen (λ o. IsSeqid (open_stateid o).seqid) state
  pub locks : EachLock (λ l. IsSeqid (lock_stateid l).seqid) state
  pub delegations : EachDelegation (λ d. IsSeqid (delegation_stateid d).seqid) state

-- the share has access: to read, to write, or both (section 9.9)
abbrev pub HasAccess : Share → Type 0
HasAccess share = IsTrue (share.access.read || share.access.write)

-- The open has a share at least, each has access, and no two are the same (section 9.11).
pub record HasShares (o : OpenState) : Type 0 where
  pub some : o.shares ≢ []
  pub access : AllByRecursion HasAccess o.shares
  pub differ : IsDistinct is_same o.shares

-- two opens are of one owner
abbrev pub have_same_owner : OpenState → OpenState → Bool
have_same_owner a b = is_same_owner a.owner b.owner

-- two lock states are of one owner
abbrev pub have_same_lock_owner : ByteLocks → ByteLocks → Bool
have_same_lock_owner a b = is_same_lock_owner a.owner b.owner

-- The owners have one name: they are of one kind and one client, whose name for them is one (section 9.1.5).
abbrev pub have_same_name : KnownOwner → KnownOwner → Bool
have_same_name a b = is_same_state_owner a.name b.name

-- both records have one clientid
abbrev pub have_same_client : ClientRecord → ClientRecord → Bool
have_same_client r s = is_same_client r.state.client s.state.client

-- the number was given, where `last` is the one that was given last: they go up from 1
abbrev pub WasGiven : ℕ → ℕ → Type 0
WasGiven last number = (1 ≤ number) × (number ≤ last)

-- the value with which SETCLIENTID_CONFIRM names the record
abbrev pub confirm_value : ClientRecord → ℕ
confirm_value r = r.state.confirm

-- the confirm values of all records, confirmed and unconfirmed
abbrev pub confirm_values_of : Registry → List ℕ
confirm_values_of registry = map confirm_value (registry.confirmed ++ registry.unconfirmed)

-- each confirm value is that of one record only, as SETCLIENTID gives it once (section 16.33.5)
pub record HaveConfirmValues (registry : Registry) : Type 0 where
  -- each lies between 1 and the last one that was given
  pub given : AllByRecursion (WasGiven registry.last_confirm) (confirm_values_of registry)
  -- no two records have one, be they confirmed, unconfirmed, or one of each
  pub differ : IsDistinct (λ a b. a == b) (confirm_values_of registry)

-- the bytes that the owner holds are in no more runs than an owner may have of a file
abbrev pub HasFewRuns : ByteLocks → Type 0
HasFewRuns l = runs l.modes ≤ RUN_LIMIT

-- no limit is exceeded; that of the bytes of a file stands below
pub record KeepsLimits (state : State) : Type 0 where
  -- opens, lock states and delegations together
  pub states : state_count state ≤ STATE_LIMIT
  pub owners : length state.owners ≤ OWNER_LIMIT
  -- how many numbers of each slot were given
  pub clients : AllByRecursion (λ count. count ≤ GENERATIONS) state.clients.given
  pub runs : EachLock HasFewRuns state

-- no file has more bytes than a file may have
abbrev pub HaveFewBytes : List FileState → Type 0
HaveFewBytes files = AllByRecursion (λ f. length f.bytes ≤ TEXT_LIMIT) files

pub record IsSafe (state : State) : Type 0 where
  -- of each two opens of a node by different owners, neither may do what the other denies
  pub compatible : AllByRecursion AllAreCompatible state.opens
  pub known : EachOpen (HasKnownOwner state) state
  pub live : EachOpen (HasLiveClient state) state
  -- an owner is known only as long as its client has a confirmed record
  pub owners_live : AllByRecursion (IsOfLiveClient state) state.owners
  -- no two known owners have one name
  pub owners_differ : IsDistinct have_same_name state.owners
  -- no byte of a node is held by two lock owners, unless both hold it for reading
  pub locks_compatible : AllByRecursion AllLocksAreCompatible state.locks
  pub lockers_known : EachLock (HasKnownLocker state) state
  pub lockers_live : EachLock (HasLiveLocker state) state
  pub locks_under_opens : EachLockAt (StandsUnderOpen state) state
  -- no two states have one number, be they opens, lock states or delegations, of one file or of two
  pub numbers_differ : IsDistinct (λ a b. a == b) (numbers_of state)
  pub numbers_given : AllByRecursion (WasGiven state.last_state) (numbers_of state)
  pub seqids : HaveSeqids state
  pub shares : EachOpen HasShares state
  -- an owner has at most one open of a file (section 9.11), and at most one lock state (section 9.1.4)
  pub one_open : AllByRecursion (IsDistinct have_same_owner) state.opens
  pub one_lock : AllByRecursion (IsDistinct have_same_lock_owner) state.locks
  -- a write delegation stands beside no open and no delegation of another client, a read delegation beside no open of
  -- another client that may write or denies reading (section 10.4)
  pub apart : (node : ℕ) → AreApartAt state node
  -- a client has at most one delegation of a file
  pub one_delegation : AllByRecursion OneEach state.delegations
  -- the delegations of a file stand in the order of their numbers
  pub delegations_in_order : AllByRecursion StandInOrder state.delegations
  pub holders_live : EachDelegation (HasLiveHolder state) state
  -- an id has at most one confirmed and at most one unconfirmed record (section 16.33.5), and each client number is the
  -- last that was given of its slot, to one id
  pub records : AreRecords state.clients
  -- a clientid has at most one confirmed record
  pub one_of_client : IsDistinct have_same_client state.clients.confirmed
  -- each record has a confirm value of its own
  pub confirm_values : HaveConfirmValues state.clients
  pub within : KeepsLimits state

-- What the state has for the tree.

-- each node has a list of opens, one of lock states and one of delegations
pub record HasListsFor (nodes : List Node) (state : State) : Type 0 where
  pub opens : length state.opens ≡ node_count nodes
  pub locks : length state.locks ≡ node_count nodes
  pub delegations : length state.delegations ≡ node_count nodes

-- nothing of the node is opened, locked or lent
pub record HasNothing (state : State) (node : ℕ) : Type 0 where
  pub opens : opens_of node state.opens ≡ []
  pub locks : locks_of node state.locks ≡ []
  pub delegations : delegations_of node state.delegations ≡ []

-- Files alone are opened, locked and lent: OPEN of a directory is NFS4ERR_ISDIR (section 16.16).
abbrev pub OnlyFilesHaveState : List Node → State → Type 0
OnlyFilesHaveState nodes state =
    (node : ℕ) → IsTrue (is_directory nodes node) → HasNothing state node

-- What is kept for the owners.

-- The call goes by a sequence id, and its answer has a status that counts (section 9.1.7).
abbrev pub HasCounted : Call → Type 0
HasCounted call =
    IsTrue (is_sequenced call.request.op) × IsTrue (counts (status_of call.answer))

-- the call that the journal's entry with this number records
abbrev pub call_at : History → ℕ → Option Call
call_at journal number = option_and_then call_of (slice_get journal.entries number)

-- the entry that is kept for the owner is such a call in the journal
abbrev pub KeepsRequest : History → KnownOwner → Type 0
KeepsRequest journal o = IsSomeAnd (call_at journal o.kept_entry) HasCounted

-- the entry that is kept for each owner is such a call in the journal
abbrev pub KeepRequests : History → State → Type 0
KeepRequests journal state = AllByRecursion (KeepsRequest journal) state.owners
