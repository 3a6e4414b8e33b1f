-- What an entry of the journal changes in the state: first what it means for an owner, and then the operation's own
-- change.
use Rattle.std.specs.Prelude.{ℕ, ◌+◌, Bool, false, not, [], ◌∷◌, ◌++◌, filter, map, Option, Some, None, is_some, if◌then◌else◌}
use Rattle.nfs_forms.specs.ClientId.{is_same_client}
use Rattle.nfs_forms.specs.OpenOwner.{is_same_owner}
use Rattle.nfs_forms.specs.declared.client_id.ClientId.{ClientId}
use Rattle.nfs_forms.specs.declared.open_owner.OpenOwner.{OpenOwner}
use Rattle.nfs_owners.specs.ClientChange.{with_change}
use Rattle.nfs_owners.specs.declared.clients.client_change.ClientChange.{ClientChange}
use Rattle.nfs_owners.specs.declared.clients.client_change.ClientChange.TheVariants as client_changes
use Rattle.nfs_locks.specs.AllLocks.{with_locks}
use Rattle.nfs_locks.specs.Locks.{with_first_lock, with_lock_change}
use Rattle.nfs_locks.specs.Locks as locks
use Rattle.nfs_owners.specs.Registry as registry
use Rattle.nfs_owners.specs.Registry.{with_mark}
use Rattle.nfs_owners.specs.StateOwner.{lock_owner, open_owner}
use Rattle.nfs_share.specs.AllOpens.{opens_of, with_delegations, with_opens}
use Rattle.nfs_share.specs.Delegations.{first_delegation, is_delegation_numbered, is_lent_to, with_recalls, without_lent}
use Rattle.nfs_share.specs.declared.delegation.DelegationKind.{DelegationKind}
use Rattle.nfs_share.specs.declared.share.Share.{Share}
use Rattle.nfs_share.specs.Opens.{after_downgrade, is_numbered, is_of_client, open_of, with_each, with_next_seqid, with_opening}
use Rattle.nfs_share.specs.Opens as opens
use Rattle.nfs_state.specs.Files.{with_bytes, with_size}
use Rattle.nfs_state.specs.Owners.{with_confirmation, with_kept_entry, with_record, without_owner}
use Rattle.nfs_state.specs.State.{State}
use Rattle.nfs_state.specs.declared.change.Change.{Change}
use Rattle.nfs_state.specs.declared.change.Change.TheVariants as changes
use Rattle.nfs_state.specs.declared.effect.Effect.{Effect}
use Rattle.nfs_state.specs.declared.owner_change.OwnerChange.{OwnerChange}
use Rattle.nfs_state.specs.declared.owner_change.OwnerChange.TheVariants.{Nothing, Keeps, KeepsBoth, Introduces, Records, Restarts, Drops}

-- The state without an open owner and its opens. It is for owners that aren't confirmed: under their opens there are no
-- lock states.
abbrev pub without : OpenOwner → State → State
without name old = record old {
  owners = without_owner (open_owner name) old.owners;
  opens = map (λ opens. filter (λ o. not (is_same_owner o.owner name)) opens) old.opens;
}

-- the state after what an entry with this number means for an owner, before the operation's own change
abbrev pub with_owner_change : OwnerChange → ℕ → State → State
with_owner_change Nothing number old = old
with_owner_change (Keeps name) number old =
    record old { owners = with_kept_entry number name old.owners }
with_owner_change (KeepsBoth name newcomer) number old =
    record old { owners = with_kept_entry number newcomer (with_kept_entry number name old.owners) }
with_owner_change (Introduces name newcomer) number old =
    record old { owners = with_record number newcomer false (with_kept_entry number name old.owners) }
with_owner_change (Records name confirmed) number old =
    record old { owners = with_record number (open_owner name) confirmed old.owners }
with_owner_change (Restarts name confirmed) number old =
    let fresh = without name old in
    record fresh { owners = with_record number (open_owner name) confirmed fresh.owners }
with_owner_change (Drops name) number old = without name old

-- The state without the owners, the opens, the lock states and the delegations of a client that a confirmation
-- replaces, or that expires (RFC 7530, section 9.6).
abbrev pub without_client : ClientId → State → State
without_client client old = record old {
  owners = filter (λ o. not (is_same_client o.name.client client)) old.owners;
  opens = map (opens.without (is_of_client client)) old.opens;
  locks = map (locks.without (locks.is_lock_of_client client)) old.locks;
  delegations = map (without_lent (is_lent_to client)) old.delegations;
}

abbrev pub left_by : ClientChange → State → State
left_by (client_changes.Replaces r client) old = without_client client old
left_by change old = old

-- the number that was given last after an OPEN: only an owner's first open of a file takes one
abbrev pub last_state_after : Bool → ℕ → ℕ
last_state_after has_open last = if has_open then last else last + 1

-- the state after an OPEN of the node's file by the owner for this share
abbrev pub with_open : ℕ → OpenOwner → Share → State → State
with_open node owner share old = record old {
  opens = with_opens node (with_opening owner share (old.last_state + 1)) old.opens;
  last_state = last_state_after (is_some (open_of owner (opens_of node old.opens))) old.last_state;
}

-- the state after a delegation of the node's file, if one of a kind is given: it has the next number
abbrev pub with_grant : ℕ → ClientId → Option DelegationKind → State → State
with_grant node client None old = old
with_grant node client (Some kind) old = record old {
  delegations = with_delegations node
      (λ lent. lent ++ first_delegation client kind (old.last_state + 1) ∷ []) old.delegations;
  last_state = old.last_state + 1;
}

-- the state after an operation's own change
abbrev pub with_state_change : Change → State → State
with_state_change changes.Nothing old = old
with_state_change (changes.Clients change) old =
    let left = left_by change old in
    record left { clients = with_change change old.clients }
-- the open's number is given first
with_state_change (changes.Opens node owner share lent) old =
    with_grant node owner.client lent (with_open node owner share old)
with_state_change (changes.Confirms node number owner) old = record old {
  owners = with_confirmation (open_owner owner) old.owners;
  opens = with_opens node (with_each (is_numbered number) with_next_seqid) old.opens;
}
with_state_change (changes.Downgrades node number share) old = record old {
  opens = with_opens node (with_each (is_numbered number) (after_downgrade share)) old.opens;
}
-- all lock states under an open are of the open's file
with_state_change (changes.Closes node number) old = record old {
  opens = with_opens node (opens.without (is_numbered number)) old.opens;
  locks = with_locks node (locks.without (locks.is_under number)) old.locks;
}
with_state_change (changes.Begins node first) old = record old {
  locks = with_locks node (with_first_lock first (old.last_state + 1)) old.locks;
  last_state = old.last_state + 1;
}
with_state_change (changes.Locks node number change) old = record old {
  locks = with_locks node (with_lock_change number change) old.locks;
}
with_state_change (changes.Releases owner) old = record old {
  owners = without_owner (lock_owner owner) old.owners;
  locks = map (locks.without (locks.is_lock_of owner)) old.locks;
}
-- the owner has no open, and so there is nothing else of it (section 9.1.10)
with_state_change (changes.Forgets owner) old =
    record old { owners = without_owner (open_owner owner) old.owners }
with_state_change (changes.Expires client) old =
    let left = without_client client old in
    record left { clients = registry.without_client client.number old.clients }
-- what is in the way of a use of the file is called back (RFC 7530, section 10.4.4)
with_state_change (changes.Recalls node file_use moment) old = record old {
  delegations = with_delegations node (with_recalls file_use moment) old.delegations;
}
with_state_change (changes.Returns node number) old = record old {
  delegations = with_delegations node (without_lent (is_delegation_numbered number)) old.delegations;
}
with_state_change (changes.Writes node offset bytes) old =
    record old { files = with_bytes node offset bytes old.files }
with_state_change (changes.Cuts node size) old =
    record old { files = with_size node size old.files }
with_state_change (changes.MarksPath client path) old =
    record old { clients = with_mark client path old.clients }

-- a change of an entry that means nothing for the owners
abbrev pub change_alone : Change → Effect
change_alone change = record { owner = Nothing; change = change }

-- The state after an entry with this number and this effect: first what it means for the owners, and then the change.
abbrev pub after : ℕ → Effect → State → State
after number effect old =
    with_state_change effect.change (with_owner_change effect.owner number old)
