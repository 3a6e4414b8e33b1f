-- What the functions that look up a stateid and an owner return, as the rules speak of it; used only in the contracts
-- of this crate's own functions.
use Rattle.std.specs.Prelude.{◌≡◌, ℕ, Option, Some, None, option_and_then, option_map, slice_get, Result, Ok, Err}
use Rattle.std.specs.Option.{option_copied}
use Rattle.nfs_locks.specs.AllLocks.{LockAt}
use Rattle.nfs_locks.specs.LockFound.{lock_found_seen}
use Rattle.nfs_locks.specs.StoredLocks.{lock_seen}
use Rattle.nfs_locks.specs.declared.locks.LockFound.{LockFound}
use Rattle.nfs_share.specs.declared.opens.OpenFound.{OpenFound}
use Rattle.nfs_share.specs.OpenFound.{open_seen}
use Rattle.nfs_rules.specs.declared.newcomer.Newcomer.{Newcomer}
use Rattle.nfs_rules.specs.declared.newcomer.Newcomer.TheVariants as found_newcomers
use Rattle.nfs_rules.specs.declared.operations.lock.Locking.{Locking}
use Rattle.nfs_rules.specs.declared.stateids.Found.{Found}
use Rattle.nfs_rules.specs.declared.stateids.Found.TheVariants as found_states
use Rattle.nfs_rules.specs.declared.stateids.FoundDelegation.{FoundDelegation}
use Rattle.nfs_rules.specs.declared.sequence.Requester.{Requester}
use Rattle.nfs_rules.specs.declared.sequence.Requester.TheVariants as requesters
use Rattle.nfs_rules.specs.declared.sequence.SequenceStep.{SequenceStep}
use Rattle.nfs_rules.specs.declared.sequence.SequenceStep.TheVariants as found_sequences
use Rattle.nfs_rules.specs.Newcomers as newcomers
use Rattle.nfs_rules.specs.Sequences as sequences
use Rattle.nfs_rules.specs.Refusing.{◌>>=◌}
use Rattle.nfs_rules.specs.Stateids as stateids
use Rattle.nfs_rules.specs.Stateids.{as_delegation, as_lock, as_open, verdict_on}
use Rattle.nfs_rules.specs.declared.demand.Demand.{Demand}
use Rattle.nfs_rules.specs.operations.Lock as lock
use Rattle.nfs_share.specs.AllOpens.{DelegationAt, OpenAt}
use Rattle.nfs_state.specs.Entries.{call_of}
use Rattle.nfs_state.specs.State.{State, History}
use Rattle.nfs_forms.specs.declared.stateid.Stateid.{Stateid}
use Rattle.nfs_forms.specs.declared.status.Refusal.{Refusal}
use Rattle.nfs_forms.specs.declared.status.Refusal.TheVariants as refusals
use Rattle.nfs_owners.specs.Kept.{KeptRequest, request_of}
use Rattle.nfs_owners.specs.declared.kept.KeptCall.{KeptCall}
use Rattle.nfs_state.specs.declared.entry.Call.{Call}
use Rattle.nfs_xdr.specs.declared.op_result.OpResult.{OpResult}
use Rattle.nfs_owners.specs.StateOwner.{owner_seen}
use Rattle.nfs_owners.specs.declared.state_owner.StateOwner.{StateOwner}

abbrev pub found_delegation_seen : FoundDelegation → DelegationAt
found_delegation_seen found = record { node = found.node; state = found.state.now }

abbrev pub found_seen : Found → stateids.Found
found_seen (found_states.AnOpen found) = stateids.AnOpen (open_seen found)
found_seen (found_states.ALock found) = stateids.ALock (lock_found_seen found)
found_seen (found_states.ADelegation found) = stateids.ADelegation (found_delegation_seen found)

abbrev pub target_seen : Result (Option Found) Refusal → Result (Option stateids.Found) Refusal
target_seen (Ok found) = Ok (option_map found_seen found)
target_seen (Err refusal) = Err refusal

abbrev pub found_or_refusal_seen : Result Found Refusal → Result stateids.Found Refusal
found_or_refusal_seen (Ok found) = Ok (found_seen found)
found_or_refusal_seen (Err refusal) = Err refusal

-- the open, the lock state or the delegation that an operation works on, by the verdict on a stateid that names this
abbrev pub open_by : Demand → State → Stateid → Result (Option stateids.Found) Refusal
    → Result OpenAt Refusal
open_by demand state id target = verdict_on demand state id target >>= as_open

abbrev pub lock_by : Demand → State → Stateid → Result (Option stateids.Found) Refusal
    → Result LockAt Refusal
lock_by demand state id target = verdict_on demand state id target >>= as_lock

abbrev pub delegation_by : Demand → State → Stateid → Result (Option stateids.Found) Refusal
    → Result DelegationAt Refusal
delegation_by demand state id target = verdict_on demand state id target >>= as_delegation

abbrev pub open_or_refusal_seen : Result OpenFound Refusal → Result OpenAt Refusal
open_or_refusal_seen (Ok found) = Ok (open_seen found)
open_or_refusal_seen (Err refusal) = Err refusal

abbrev pub lock_or_refusal_seen : Result LockFound Refusal → Result LockAt Refusal
lock_or_refusal_seen (Ok found) = Ok (lock_found_seen found)
lock_or_refusal_seen (Err refusal) = Err refusal

abbrev pub delegation_or_refusal_seen : Result FoundDelegation Refusal → Result DelegationAt Refusal
delegation_or_refusal_seen (Ok found) = Ok (found_delegation_seen found)
delegation_or_refusal_seen (Err refusal) = Err refusal

abbrev pub newcomer_seen : Newcomer → newcomers.Newcomer
newcomer_seen found_newcomers.Nobody = newcomers.Nobody
newcomer_seen (found_newcomers.Known name) = newcomers.Known name.now
newcomer_seen (found_newcomers.Unknown name) = newcomers.Unknown name.now

-- what a LOCK is to hold, as its rule speaks of it
abbrev pub locking_seen : Locking → lock.Locking
locking_seen l = record {
  node = l.node;
  owner = l.owner.now;
  mode = l.mode;
  open_number = l.open_number;
  state = option_map lock_seen (option_copied l.state);
}

abbrev pub locking_or_refusal_seen : Result Locking Refusal → Result lock.Locking Refusal
locking_or_refusal_seen (Ok l) = Ok (locking_seen l)
locking_or_refusal_seen (Err refusal) = Err refusal

abbrev pub requester_seen : Requester → sequences.Requester
requester_seen (requesters.Refused refusal) = sequences.Refused refusal
requester_seen (requesters.Owner name seqid) = sequences.Owner (owner_seen name) seqid

-- the owner whose name was found among the stored ones, or NFS4ERR_BAD_STATEID
abbrev pub stored_or_bad : ℕ → Option StateOwner → sequences.Requester
stored_or_bad seqid None = sequences.Refused refusals.BadStateId
stored_or_bad seqid (Some name) = sequences.Owner name seqid

abbrev pub sequence_seen : SequenceStep → sequences.SequenceStep
sequence_seen (found_sequences.Answered answer) = sequences.Answered answer
sequence_seen (found_sequences.GoesOn passage name) = sequences.GoesOn passage (owner_seen name)

-- the call that the journal's entry with this number records, if it records one
abbrev pub call_at : History → ℕ → Option Call
call_at journal number = option_and_then call_of (slice_get journal.entries number)

-- the request and the answer of a call, as they are kept for an owner
abbrev pub parts_of : Call → KeptRequest × OpResult
parts_of call = (request_of call.request.op call.request.filehandle, call.answer)

abbrev pub parts_seen : KeptCall → KeptRequest × OpResult
parts_seen call = (request_of call.op.now call.filehandle, call.answer.now)

-- the request and the answer are those of the call that the journal's entry with this number records
abbrev pub IsCallAt : History → ℕ → KeptCall → Type 0
IsCallAt journal number call = option_map parts_of (call_at journal number) ≡ Some (parts_seen call)
