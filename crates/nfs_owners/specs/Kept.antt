-- The request that is kept for an owner, and the verdict on the one that comes (RFC 7530, sections 9.1.7 and 9.1.8).
use Rattle.std.specs.Prelude.{◌≡◌, ◌≢◌, ℕ, ◌+◌, ◌-◌, ◌^◌, ◌==◌, Bool, true, false, ◌&&◌, Option, Some, None, if◌then◌else◌}
use Rattle.nfs_owners.specs.declared.kept.KeptCall.{KeptCall}
use Rattle.nfs_owners.specs.declared.kept.KeptSummary.{KeptSummary}
use Rattle.nfs_owners.specs.declared.kept.Verdict.{Verdict}
use Rattle.nfs_owners.specs.declared.kept.Verdict.TheVariants as verdicts
use Rattle.nfs_forms.specs.ClientId.{is_same_client}
use Rattle.nfs_forms.specs.declared.answer.Answer.TheVariants.{Done}
use Rattle.nfs_forms.specs.declared.client_id.ClientId.{ClientId}
use Rattle.nfs_forms.specs.declared.stateid.Stateid.{Stateid}
use Rattle.nfs_xdr.specs.declared.op.Op.{Op}
use Rattle.nfs_xdr.specs.declared.op.Op.TheVariants as ops
use Rattle.nfs_xdr.specs.declared.op_result.OpResult.{OpResult}
use Rattle.nfs_xdr.specs.declared.op_result.OpResult.TheVariants as results

-- What a request and its retransmission have in common: the operation with its arguments, and the node of the current
-- filehandle, if there is one.
pub record KeptRequest : Type 0 where
  pub op : Op
  pub filehandle : Option ℕ

-- The request that is kept for an owner, with its sequence id, and the answer to it.
pub record Kept : Type 0 where
  pub seqid : ℕ
  pub request : KeptRequest
  pub answer : OpResult

-- a request of this operation, with the node of the current filehandle
abbrev pub request_of : Op → Option ℕ → KeptRequest
request_of op filehandle = record { op = op; filehandle = filehandle }

-- what is kept, by what is stored of it and by the call that the journal has
abbrev pub kept_seen : KeptSummary → KeptCall → Kept
kept_seen summary call = record {
  seqid = summary.seqid;
  request = request_of call.op.now call.filehandle;
  answer = call.answer.now;
}

-- the sequence id that follows another; after 2^32 - 1 comes 0
abbrev pub next_seqid : ℕ → ℕ
next_seqid seqid = if seqid == 2 ^ 32 - 1 then 0 else seqid + 1

-- the sequence id is the next one after that of the kept request
abbrev pub precedes : Kept → ℕ → Bool
precedes kept seqid = seqid == next_seqid kept.seqid

-- The request is the kept one again: with its sequence id, operation, arguments and current filehandle.
abbrev pub IsAgain : Kept → ℕ → KeptRequest → Type 0
IsAgain kept seqid request = (seqid ≡ kept.seqid) × (request ≡ kept.request)

-- The verdict on a request, given the kept one: it is the next one, or the kept one again, or neither.
abbrev pub IsVerdict : Kept → ℕ → KeptRequest → Verdict → Type 0
IsVerdict kept seqid request verdicts.New = seqid ≡ next_seqid kept.seqid
IsVerdict kept seqid request (verdicts.Replay answer) =
    IsAgain kept seqid request × (answer.now ≡ kept.answer)
IsVerdict kept seqid request verdicts.Bad =
    (seqid ≢ next_seqid kept.seqid) × (IsAgain kept seqid request → ⊥)

-- the stateid in the operation, if it is a CLOSE
abbrev pub closed_in : Op → Option Stateid
closed_in (ops.Close args) = Some args.stateid
closed_in op = None

-- the answer is that of a CLOSE that freed a state
abbrev pub is_freeing : OpResult → Bool
is_freeing (results.Close (Done freed)) = true
is_freeing answer = false

-- the stateid of the state that a request of this operation closed, which had this answer, if it closed one
abbrev pub closed_stateid : Op → OpResult → Option Stateid
closed_stateid op answer = if is_freeing answer then closed_in op else None

-- what is stored of the kept request: its sequence id, and the stateid of the state that it closed
abbrev pub summary_of : Kept → KeptSummary
summary_of kept =
    record { seqid = kept.seqid; closed = closed_stateid kept.request.op kept.answer }

-- the stateid is that of the client's state with this number
abbrev pub is_of_state : ClientId → ℕ → Option Stateid → Bool
is_of_state client number None = false
is_of_state client number (Some id) = is_same_client id.client client && (id.number == number)

-- what is stored of the kept request tells that it closed the client's state with this number
abbrev pub summary_closes : ClientId → ℕ → KeptSummary → Bool
summary_closes client number summary = is_of_state client number summary.closed

-- what is kept closed the client's state with this number
abbrev pub closes : ClientId → ℕ → Kept → Bool
closes client number kept =
    is_of_state client number (closed_stateid kept.request.op kept.answer)
