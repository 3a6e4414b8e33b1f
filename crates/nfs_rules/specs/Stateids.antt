-- What a stateid names, and the verdict on it (RFC 7530, sections 9.1.4.3 and 9.1.4.4).
use Rattle.std.specs.Prelude.{ℕ, ◌==◌, nat_lt, Bool, true, false, not, ◌||◌, List, [], ◌∷◌, Option, Some, None, is_some, Result, Ok, Err}
use Rattle.nfs_rules.specs.Refusing.{◌>>=◌, first_refusal}
use Rattle.nfs_rules.specs.declared.demand.Demand.{Demand}
use Rattle.nfs_rules.specs.declared.demand.Kinds.{Kinds}
use Rattle.nfs_state.specs.Owners.{is_confirmed}
use Rattle.nfs_state.specs.State.{State}
use Rattle.nfs_forms.specs.ClientId.{is_same_client}
use Rattle.nfs_forms.specs.Stateid.{is_special}
use Rattle.nfs_forms.specs.declared.client_id.ClientId.{ClientId}
use Rattle.nfs_forms.specs.declared.stateid.Stateid.{Stateid}
use Rattle.nfs_forms.specs.declared.status.Refusal.{Refusal}
use Rattle.nfs_forms.specs.declared.status.Refusal.TheVariants as refusals
use Rattle.nfs_owners.specs.Registry.{record_of, was_given}
use Rattle.nfs_owners.specs.StateOwner.{open_owner}
use Rattle.nfs_locks.specs.AllLocks.{LockAt, lock_named_in}
use Rattle.nfs_share.specs.AllOpens.{DelegationAt, OpenAt, delegation_named_in, named_in}

-- Why a stateid can't name a state: it is special; it is of another run of the server; its client number was never
-- given out; its client has no confirmed record, be it gone or never confirmed.
abbrev pub before_state : ℕ → State → Stateid → List (Bool × Refusal)
before_state epoch state id =
    (is_special id, refusals.BadStateId)
    ∷ (not (id.client.epoch == epoch), refusals.StaleStateId)
    ∷ (not (was_given id.client.number state.clients), refusals.BadStateId)
    ∷ (not (is_some (record_of id.client state.clients)), refusals.Expired)
    ∷ []

-- a state that a stateid names, as it was found
pub data Found : Type 0 where
  AnOpen : OpenAt → Found
  ALock : LockAt → Found
  ADelegation : DelegationAt → Found

-- the state that is found, given the open and the lock state that the stateid names
abbrev pub open_or_lock : Option OpenAt → Option LockAt → Option Found
open_or_lock (Some at) lock = Some (AnOpen at)
open_or_lock None (Some at) = Some (ALock at)
open_or_lock None None = None

-- the state that is found, given also the delegation that the stateid names: no two states have one number
abbrev pub delegation_or : Option DelegationAt → Option Found → Option Found
delegation_or (Some at) other = Some (ADelegation at)
delegation_or None other = other

-- the client's state with the stateid's number, no matter its file and its seqid, if there is one
abbrev pub found_in : State → Stateid → Option Found
found_in state id =
    delegation_or (delegation_named_in id state.delegations)
    (open_or_lock (named_in id state.opens) (lock_named_in id state.locks))

-- what a stateid names, or why it can't name a state
abbrev pub target_of : ℕ → State → Stateid → Result (Option Found) Refusal
target_of epoch state id = first_refusal (before_state epoch state id) (found_in state id)

-- the operation works on states of this one's kind
abbrev pub is_of_kinds : Kinds → Found → Bool
is_of_kinds kinds (AnOpen at) = kinds.opens
is_of_kinds kinds (ALock at) = kinds.locks
is_of_kinds kinds (ADelegation at) = kinds.delegations

abbrev pub node_of : Found → ℕ
node_of (AnOpen at) = at.node
node_of (ALock at) = at.node
node_of (ADelegation at) = at.node

-- The state isn't an open of an unconfirmed owner. A lock owner needs no confirmation, and a delegation has no owner.
abbrev pub has_confirmed_owner : State → Found → Bool
has_confirmed_owner state (AnOpen at) = is_confirmed (open_owner at.state.owner) state.owners
has_confirmed_owner state (ALock at) = true
has_confirmed_owner state (ADelegation at) = true

-- a delegation's seqid never changes
abbrev pub seqid_of : Found → ℕ
seqid_of (AnOpen at) = at.state.seqid
seqid_of (ALock at) = at.state.seqid
seqid_of (ADelegation at) = 1

-- the stateid is of the client whose state is demanded, if only one client's is
abbrev pub is_of_demanded : Option ClientId → Stateid → Bool
is_of_demanded None id = true
is_of_demanded (Some client) id = is_same_client id.client client

-- Why an operation can't work on the state that its stateid names: the state is of another kind; it is of another file;
-- it is of another client than is demanded; its owner is unconfirmed, where only confirmed ones are accepted; the
-- stateid's seqid is below the state's, or above.
abbrev pub of_state : Demand → State → Stateid → Found → List (Bool × Refusal)
of_state demand state id found =
    (not (is_of_kinds demand.kinds found), refusals.BadStateId)
    ∷ (not (node_of found == demand.node), refusals.BadStateId)
    ∷ (not (is_of_demanded demand.client id), refusals.BadStateId)
    ∷ (not (demand.also_unconfirmed || has_confirmed_owner state found), refusals.BadStateId)
    ∷ (nat_lt id.seqid (seqid_of found), refusals.OldStateId)
    ∷ (nat_lt (seqid_of found) id.seqid, refusals.BadStateId)
    ∷ []

-- NFS4ERR_BAD_STATEID where there is no state
abbrev pub judged : Demand → State → Stateid → Option Found → Result Found Refusal
judged demand state id None = Err refusals.BadStateId
judged demand state id (Some found) = first_refusal (of_state demand state id found) found

-- the verdict on a stateid that names this
abbrev pub verdict_on : Demand → State → Stateid → Result (Option Found) Refusal
    → Result Found Refusal
verdict_on demand state id target = target >>= judged demand state id

-- the verdict on a stateid: the state that it names, or the first reason why the operation can't work on it
abbrev pub verdict : Demand → ℕ → State → Stateid → Result Found Refusal
verdict demand epoch state id = verdict_on demand state id (target_of epoch state id)

-- What the operations demand that work on one kind of state: an open whose owner is confirmed, an open of any owner, a
-- lock state, a delegation, each of this node's file; or any of these, as READ and WRITE do.
abbrev pub confirmed_open : ℕ → Demand
confirmed_open node = record {
  node = node;
  kinds = record { opens = true; locks = false; delegations = false };
  also_unconfirmed = false;
  client = None;
}

abbrev pub any_open : ℕ → Demand
any_open node = record {
  node = node;
  kinds = record { opens = true; locks = false; delegations = false };
  also_unconfirmed = true;
  client = None;
}

abbrev pub lock_state : ℕ → Demand
lock_state node = record {
  node = node;
  kinds = record { opens = false; locks = true; delegations = false };
  also_unconfirmed = false;
  client = None;
}

abbrev pub delegation : ℕ → Demand
delegation node = record {
  node = node;
  kinds = record { opens = false; locks = false; delegations = true };
  also_unconfirmed = false;
  client = None;
}

-- any state of the node's file, an open only of a confirmed owner
abbrev pub any_state : ℕ → Demand
any_state node = record {
  node = node;
  kinds = record { opens = true; locks = true; delegations = true };
  also_unconfirmed = false;
  client = None;
}

-- a delegation of the node's file that this client has
abbrev pub delegation_of : ClientId → ℕ → Demand
delegation_of client node = record (delegation node) { client = Some client }

-- The open, the lock state or the delegation that was demanded; a state of another kind is NFS4ERR_BAD_STATEID.
abbrev pub as_open : Found → Result OpenAt Refusal
as_open (AnOpen at) = Ok at
as_open found = Err refusals.BadStateId

abbrev pub as_lock : Found → Result LockAt Refusal
as_lock (ALock at) = Ok at
as_lock found = Err refusals.BadStateId

abbrev pub as_delegation : Found → Result DelegationAt Refusal
as_delegation (ADelegation at) = Ok at
as_delegation found = Err refusals.BadStateId
