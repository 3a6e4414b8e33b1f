-- Sequenced operations: OPEN, OPEN_CONFIRM, OPEN_DOWNGRADE, CLOSE, LOCK and LOCKU go by the sequence id of an owner, so
-- that a request that comes again is answered as it was (RFC 7530, sections 9.1.7 to 9.1.11). In turn: the filehandle,
-- the owner, its sequence id, and then the operation's own rule.
use Rattle.std.specs.Prelude.{◌≡◌, ℕ, Bool, true, false, not, ◌&&◌, find, Option, Some, None, option_map, is_some, Result, Ok, Err, if◌then◌else◌}
use Rattle.nfs_state.specs.declared.change.Change.TheVariants as changes
use Rattle.nfs_rules.specs.declared.decision.Decision.{Decision}
use Rattle.nfs_state.specs.declared.owner_change.OwnerChange.{OwnerChange}
use Rattle.nfs_state.specs.declared.owner_change.OwnerChange.TheVariants.{Nothing, Keeps, KeepsBoth, Introduces, Records, Restarts, Drops}
use Rattle.nfs_rules.specs.declared.passage.Passage.{Passage}
use Rattle.nfs_rules.specs.declared.passage.Passage.TheVariants as passages
use Rattle.nfs_state.specs.declared.request.Request.{Request}
use Rattle.nfs_rules.specs.declared.ruling.Ruling.{Ruling}
use Rattle.nfs_state.specs.Changes.{change_alone, without}
use Rattle.nfs_state.specs.Kept.{kept_for}
use Rattle.nfs_state.specs.Owners.{KnownOwner, owner_of}
use Rattle.nfs_rules.specs.Newcomers.{Newcomer, Nobody, Known, Unknown, newcomer_of}
use Rattle.nfs_rules.specs.Stateids as stateids
use Rattle.nfs_rules.specs.Stateids.{Found, target_of}
use Rattle.nfs_state.specs.State.{State, History}
use Rattle.nfs_forms.specs.declared.client_id.ClientId.{ClientId}
use Rattle.nfs_forms.specs.declared.open_owner.OpenOwner.{OpenOwner}
use Rattle.nfs_owners.specs.StateOwner.{as_open_owner, lock_owner, open_owner}
use Rattle.nfs_owners.specs.declared.state_owner.StateOwner.{StateOwner}
use Rattle.nfs_forms.specs.declared.stateid.Stateid.{Stateid}
use Rattle.nfs_forms.specs.declared.status.Refusal.{Refusal}
use Rattle.nfs_forms.specs.declared.status.Refusal.TheVariants as refusals
use Rattle.nfs_forms.specs.declared.status.Status.{Status}
use Rattle.nfs_forms.specs.declared.status.Status.TheVariants as statuses
use Rattle.nfs_owners.specs.declared.kept.Verdict.{Verdict}
use Rattle.nfs_owners.specs.declared.kept.Verdict.TheVariants as verdicts
use Rattle.nfs_owners.specs.Kept.{IsAgain, IsVerdict, Kept, closes, request_of}
use Rattle.nfs_owners.specs.Registry.{record_of}
use Rattle.nfs_xdr.specs.declared.op.Op.{Op}
use Rattle.nfs_xdr.specs.declared.op.Op.TheVariants as ops
use Rattle.nfs_xdr.specs.declared.op_result.OpResult.{OpResult}
use Rattle.nfs_xdr.specs.Op.{opnum_of}
use Rattle.nfs_xdr.specs.OpResult.{refusal_of, status_of}

-- OPEN alone may come from an owner that isn't known, and starts an unconfirmed one anew (section 9.1.11).
abbrev pub is_open : Op → Bool
is_open (ops.Open args) = true
is_open op = false

-- These statuses leave the owner's sequence id as it is (section 9.1.7, which has NFS4ERR_MOVED as well; this server
-- never answers it).
abbrev pub counts_refusal : Refusal → Bool
counts_refusal refusals.StaleClientId = false
counts_refusal refusals.StaleStateId = false
counts_refusal refusals.BadStateId = false
counts_refusal refusals.BadSeqId = false
counts_refusal refusals.BadXdr = false
counts_refusal refusals.Resource = false
counts_refusal refusals.NoFileHandle = false
counts_refusal refusal = true

-- the answer with this status moves the owner's sequence id on
abbrev pub counts : Status → Bool
counts (statuses.Refused refusal) = counts_refusal refusal
counts status = true

abbrev pub is_ok_status : Status → Bool
is_ok_status statuses.Ok = true
is_ok_status status = false

-- Whose sequence id a request goes by, with that of the request, or why it goes by none.
pub data Requester : Type 0 where
  Refused : Refusal → Requester
  Owner : StateOwner → ℕ → Requester

-- The owner in an OPEN's arguments: NFS4ERR_STALE_CLIENTID unless the clientid is that of a known client.
abbrev pub requester_of_open : State → OpenOwner → ℕ → Requester
requester_of_open state owner seqid =
    if is_some (record_of owner.client state.clients) then Owner (open_owner owner) seqid
    else Refused refusals.StaleClientId

-- what is kept for the owner closed the state that the stateid names
abbrev pub has_closed : Stateid → Option Kept → Bool
has_closed id None = false
has_closed id (Some kept) = closes id.client id.number kept

abbrev pub owner_or_bad : ℕ → Option KnownOwner → Requester
owner_or_bad seqid None = Refused refusals.BadStateId
owner_or_bad seqid (Some o) = Owner o.name seqid

-- The owner of a state that was found. A delegation has none.
abbrev pub requester_of_found : ℕ → Found → Requester
requester_of_found seqid (stateids.AnOpen at) = Owner (open_owner at.state.owner) seqid
requester_of_found seqid (stateids.ALock at) = Owner (lock_owner at.state.owner) seqid
requester_of_found seqid (stateids.ADelegation at) = Refused refusals.BadStateId

-- The owner that a stateid names: that of its open or lock state, no matter which file the state is of, whether its
-- owner is confirmed, and how old the stateid is; or the owner whose kept request closed the stateid's open.
abbrev pub requester_of_target : History → State → Stateid → ℕ → Result (Option Found) Refusal
    → Requester
requester_of_target journal state id seqid (Err refusal) = Refused refusal
requester_of_target journal state id seqid (Ok (Some found)) = requester_of_found seqid found
requester_of_target journal state id seqid (Ok None) =
    owner_or_bad seqid (find (λ o. has_closed id (kept_for journal o)) state.owners)

abbrev pub requester_of_stateid : History → State → Stateid → ℕ → Requester
requester_of_stateid journal state id seqid =
    requester_of_target journal state id seqid (target_of journal.epoch state id)

-- Whether a request is answered without its own rule, or goes on to it, as one of this owner's.
pub data SequenceStep : Type 0 where
  Answered : OpResult → SequenceStep
  GoesOn : Passage → StateOwner → SequenceStep

abbrev pub refusal_to : Op → Refusal → SequenceStep
refusal_to op refusal = Answered (refusal_of (opnum_of op) refusal)

abbrev pub by_verdict : StateOwner → Op → Verdict → SequenceStep
by_verdict name op verdicts.New = GoesOn passages.Continues name
by_verdict name op (verdicts.Replay answer) = Answered answer.now
by_verdict name op verdicts.Bad = refusal_to op refusals.BadSeqId

-- The owner's next request goes on, its kept one again is answered as it was, and any other is NFS4ERR_BAD_SEQID.
abbrev pub IsJudged : Kept → StateOwner → ℕ → Request → SequenceStep → Type 0
IsJudged kept name seqid request sequence =
    (verdict : Verdict)
    × IsVerdict kept seqid (request_of request.op request.filehandle) verdict
    × (sequence ≡ by_verdict name request.op verdict)

-- An OPEN of an unconfirmed owner: the kept one again is answered as it was. Any other starts the owner anew, whatever
-- its sequence id.
abbrev pub IsRestart : Kept → StateOwner → ℕ → Request → SequenceStep → Type 0
IsRestart kept name seqid request (Answered answer) =
    IsAgain kept seqid (request_of request.op request.filehandle)
    × (answer ≡ kept.answer)
IsRestart kept name seqid request (GoesOn passage owner) =
    (IsAgain kept seqid (request_of request.op request.filehandle) → ⊥)
    × (passage ≡ passages.Restarts) × (owner ≡ name)

-- A known owner's request, by whether it is an OPEN of an unconfirmed one.
abbrev pub IsOfKnown : Bool → Kept → StateOwner → ℕ → Request → SequenceStep → Type 0
IsOfKnown true kept name seqid request sequence = IsRestart kept name seqid request sequence
IsOfKnown false kept name seqid request sequence = IsJudged kept name seqid request sequence

-- An owner that isn't known begins with an OPEN of any sequence id; no other request comes from one.
abbrev pub IsOfUnknown : StateOwner → Request → SequenceStep → Type 0
IsOfUnknown name request sequence =
    sequence ≡ (if is_open request.op then GoesOn passages.Begins name
    else refusal_to request.op refusals.BadStateId)

-- A request of this owner, by whether it is known.
abbrev pub IsOfOwner : History → Option KnownOwner → StateOwner → ℕ → Request → SequenceStep → Type 0
IsOfOwner journal None name seqid request sequence = IsOfUnknown name request sequence
IsOfOwner journal (Some o) name seqid request sequence =
    (kept : Kept)
    × (kept_for journal o ≡ Some kept)
    × IsOfKnown (is_open request.op && not o.confirmed) kept name seqid request sequence

abbrev pub IsSequence : History → State → Requester → Request → SequenceStep → Type 0
IsSequence journal state (Refused refusal) request sequence =
    sequence ≡ refusal_to request.op refusal
IsSequence journal state (Owner name seqid) request sequence =
    IsOfOwner journal (owner_of name state.owners) name seqid request sequence

-- what an answer that counts means for the owner of the request and for the lock owner that it introduces
abbrev pub kept_with : StateOwner → Newcomer → Status → OwnerChange
kept_with name Nobody status = Keeps name
kept_with name (Known newcomer) status = KeepsBoth name (lock_owner newcomer)
kept_with name (Unknown newcomer) status =
    if is_ok_status status then Introduces name (lock_owner newcomer) else Keeps name

-- What an answer means for the owner: it is kept where it counts. A refusal to an owner that isn't known is kept for
-- nobody, and one to an owner that starts anew leaves it dropped.
abbrev pub owner_change_of : Passage → StateOwner → Newcomer → Status → OwnerChange
owner_change_of passages.Continues name newcomer status =
    if counts status then kept_with name newcomer status else Nothing
owner_change_of passages.Begins name newcomer status =
    if is_ok_status status then Records (as_open_owner name) false else Nothing
owner_change_of passages.Restarts name newcomer status =
    if is_ok_status status then Restarts (as_open_owner name) false else Drops (as_open_owner name)

abbrev pub decision_of : Passage → StateOwner → Newcomer → Ruling → Decision
decision_of passage name newcomer ruling = record {
  answer = ruling.answer;
  effect = record {
    owner = owner_change_of passage name newcomer (status_of ruling.answer);
    change = ruling.change;
  };
}

-- An operation's own rule: it relates the request, the node of the current filehandle and how the request goes on to
-- what is decided; `None` if a limit would be exceeded, in which case nothing changes.
abbrev pub Own : Type 1
Own = Request → ℕ → Passage → Option Ruling → Type 0

-- an answer without an operation's own rule, which changes nothing
abbrev pub only : OpResult → Decision
only answer = record { answer = answer; effect = change_alone changes.Nothing }

-- by the lock owner that a request of each client introduces, and the own rule under its filehandle
abbrev pub IsDecided : SequenceStep → (ClientId → Newcomer) → (Passage → Option Ruling → Type 0)
    → Option Decision → Type 0
IsDecided (Answered answer) newcomer own decision = decision ≡ Some (only answer)
IsDecided (GoesOn passage name) newcomer own decision =
    (ruling : Option Ruling) × own passage ruling
    × (decision ≡ option_map (decision_of passage name (newcomer name.client)) ruling)

-- NFS4ERR_NOFILEHANDLE comes first
abbrev pub IsUnder : Option ℕ → Op → (ℕ → Type 0) → Option Decision → Type 0
IsUnder None op decides decision =
    decision ≡ Some (only (refusal_of (opnum_of op) refusals.NoFileHandle))
IsUnder (Some node) op decides decision = decides node

-- what is decided for a sequenced operation
abbrev pub IsSequenced : History → State → Requester → Own → Request → Option Decision → Type 0
IsSequenced journal state requester own request decision =
    IsUnder request.filehandle request.op
    (λ node.
    (sequence : SequenceStep)
    × IsSequence journal state requester request sequence
    × IsDecided sequence (λ client. newcomer_of journal state client request.op)
    (own request node) decision)
    decision

-- the state that an OPEN's own rule sees: without the owner that it starts anew
abbrev pub before_own : Passage → OpenOwner → State → State
before_own passages.Restarts name old = without name old
before_own passage name old = old
