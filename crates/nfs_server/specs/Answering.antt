-- A COMPOUND (RFC 7530, section 15.2): a fold over its operations, given the service's answers.
use Rattle.std.specs.Prelude.{ℕ, ◌+◌, ◌-◌, slice_get, Bool, true, false, not, nat_le, List, [], ◌∷◌, length, Option, Some, None, if◌then◌else◌}
use Rattle.nfs_rpc.specs.declared.rpc_call.RpcCall.{RpcCall}
use Rattle.nfs_rpc.specs.declared.rpc_call.RpcCall.TheVariants as calls
use Rattle.nfs_rpc.specs.declared.records.TheConstants.{RECORD_LIMIT}
use Rattle.nfs_rpc.specs.declared.reply.CompoundReply.{CompoundReply}
use Rattle.nfs_rpc.specs.declared.reply.Reply.TheVariants as replies
use Rattle.nfs_rpc.specs.declared.reply.TheConstants.{ACCEPTED_LEN}
use Rattle.nfs_tree.specs.declared.filehandles.Filehandles.{Filehandles}
use Rattle.nfs_tree.specs.Effect.{Effect, stays}
use Rattle.nfs_tree.specs.Filehandles.{handles_after, no_filehandles}
use Rattle.nfs_tree.specs.operations.{effect_of}
use Rattle.nfs_tree.specs.Profiles as profiles
use Rattle.nfs_rpc.specs.Reply.{written_reply}
use Rattle.nfs_tree.specs.Exports.{Exported}
use Rattle.nfs_state.specs.Entries.{resource}
use Rattle.nfs_xdr.specs.declared.arg_op.ArgOp.{ArgOp}
use Rattle.nfs_xdr.specs.declared.arg_op.ArgOp.TheVariants.{Run, BadArgs, Unsupported, Illegal}
use Rattle.nfs_xdr.specs.declared.compound.Compound.{Compound}
use Rattle.nfs_xdr.specs.declared.compound.CompoundRequest.{CompoundRequest}
use Rattle.nfs_xdr.specs.declared.compound.CompoundRequest.TheVariants.{MinorVersion, TooMany, Operations}
use Rattle.nfs_xdr.specs.declared.op.Op.{Op}
use Rattle.nfs_xdr.specs.declared.op.Op.TheVariants as ops
use Rattle.nfs_xdr.specs.declared.op_result.OpResult.{OpResult}
use Rattle.nfs_xdr.specs.declared.opnum.Opnum.{Opnum}
use Rattle.nfs_xdr.specs.declared.opnum.Opnum.TheVariants as opnums
use Rattle.nfs_forms.specs.declared.client_id.ClientId.{ClientId}
use Rattle.nfs_forms.specs.declared.status.Refusal.TheVariants as refusals
use Rattle.nfs_forms.specs.declared.status.Status.{Status}
use Rattle.nfs_forms.specs.declared.status.Status.TheVariants as status
use Rattle.nfs_xdr.specs.Op.{opnum_of}
use Rattle.nfs_xdr.specs.Opnum.{room_of}
use Rattle.nfs_xdr.specs.OpResult.{op_result, refusal_of, status_of}
use Rattle.xdr.specs.Writing.{written_opaque}

abbrev pub is_ok : Status → Bool
is_ok status.Ok = true
is_ok s = false

-- What the service is asked: an operation, with the node of the current filehandle at that time; or to renew the lease
-- of a client.
pub data Asked : Type 0 where
  Operation : Op → Option ℕ → Asked
  Renewal : ClientId → Asked

-- What a COMPOUND asks the service, and the results in the reply.
pub record Outcome : Type 0 where
  pub asked : List Asked
  pub results : List OpResult

-- The results end with the first answer other than NFS4_OK.
abbrev pub continues : OpResult → Outcome → Outcome
continues answer more =
    if is_ok (status_of answer) then record { asked = more.asked; results = answer ∷ more.results }
    else record { asked = []; results = answer ∷ [] }

-- the service is asked a question, and the first of its remaining answers is the answer to it
abbrev pub asks : Asked → List OpResult → (OpResult → List OpResult → Outcome) → Outcome
asks question [] more = record { asked = question ∷ []; results = [] }
asks question (answer ∷ answers) more =
    let rest = continues answer (more answer answers) in
    record { asked = question ∷ rest.asked; results = rest.results }

-- How an operation is answered: by a known effect, or by asking the service.
pub data Dispatch : Type 0 where
  Known : Effect → Dispatch
  Ask : Asked → Dispatch

-- what the service is asked for an operation that needs more than the tree: RENEW asks for a renewal (section 16.28)
abbrev pub question_for : Op → Option ℕ → Asked
question_for (ops.Renew args) filehandle = Renewal args.client
question_for op filehandle = Operation op filehandle

-- An operation that needs only the tree is answered by its effect; for any other the service is asked.
abbrev pub by_effect : Option Effect → Asked → Dispatch
by_effect (Some effect) question = Known effect
by_effect None question = Ask question

-- the operation of an entry of the list
abbrev pub opnum_in : ArgOp → Opnum
opnum_in (Run op) = opnum_of op
opnum_in (BadArgs o) = o
opnum_in (Unsupported o) = opnums.Unsupported o
opnum_in (Illegal number) = opnums.Illegal

-- An entry that the profile doesn't refuse, as each does with an operation without a rule. One that ends the list isn't
-- run. An operation is run only if there is room for any answer to it after the first `size` bytes of the reply's
-- record.
abbrev pub allowed : Exported → Filehandles → ℕ → ArgOp → Dispatch
allowed export handles size (BadArgs o) =
    Known (stays handles (refusal_of o refusals.BadXdr))
allowed export handles size (Unsupported o) =
    Known (stays handles (refusal_of (opnums.Unsupported o) refusals.NotSupp))
allowed export handles size (Illegal number) =
    Known (stays handles (refusal_of opnums.Illegal refusals.OpIllegal))
allowed export handles size (Run op) =
    if not (nat_le (size + room_of (opnum_of op)) RECORD_LIMIT)
    then Known (stays handles (resource op))
    else by_effect (effect_of export handles op) (question_for op handles.current)

-- What the profile refuses whatever the arguments are is refused first, without any room.
abbrev pub dispatch : Exported → Filehandles → ℕ → ArgOp → Dispatch
dispatch export handles size entry = elim (profiles.refusal export.profile (opnum_in entry)) [
  | Some refusal ↦ Known (stays handles (refusal_of (opnum_in entry) refusal))
  | None ↦ allowed export handles size entry
]

-- The filehandles after the service's answer: with NFS4_OK they follow the operation.
abbrev pub handles_after_answer : Exported → Filehandles → Asked → OpResult → Filehandles
handles_after_answer export handles (Operation op filehandle) answer =
    if is_ok (status_of answer) then handles_after export.nodes handles op else handles
handles_after_answer export handles (Renewal client) answer = handles

-- The questions and the results of the operations, whose results follow the first `size` bytes of the reply's record.
unfoldable pub outcome_of : Exported → Filehandles → ℕ → List ArgOp → List OpResult → Outcome
outcome_of export handles size [] answers = record { asked = []; results = [] }
outcome_of export handles size (op ∷ ops) answers =
    let size_with : OpResult → ℕ = λ answer. size + length (op_result.encoding answer) in
    elim (dispatch export handles size op) [
      | Known effect ↦
          continues effect.answer
          (outcome_of export effect.after (size_with effect.answer) ops answers)
      | Ask question ↦
          asks question answers
          (λ answer others.
          outcome_of export (handles_after_answer export handles question answer) (size_with answer)
          ops others)
    ]

-- the reply's status is that of the last result, or NFS4_OK if there are no results
abbrev pub status_or_ok : Option OpResult → Status
status_or_ok None = status.Ok
status_or_ok (Some answer) = status_of answer

abbrev pub last_status : List OpResult → Status
last_status results = status_or_ok (slice_get results (length results - 1))

-- the length of the reply's record before the first result: RPC's part, the status, the tag and the count
abbrev pub head_size : List ℕ → ℕ
head_size tag = ACCEPTED_LEN + (4 + (length (written_opaque tag) + 4))

-- the operations that are answered one after the other: none if the whole COMPOUND is refused
abbrev pub operations_of : CompoundRequest → List ArgOp
operations_of (MinorVersion minor) = []
operations_of (TooMany count) = []
operations_of (Operations ops) = ops

abbrev pub request_status : List OpResult → CompoundRequest → Status
request_status results (MinorVersion minor) = status.Refused refusals.MinorVersMismatch
request_status results (TooMany count) = status.Refused refusals.Resource
request_status results (Operations ops) = last_status results

abbrev pub compound_outcome : Exported → Compound → List OpResult → Outcome
compound_outcome export c answers =
    outcome_of export no_filehandles (head_size c.tag) (operations_of c.request) answers

abbrev pub compound_reply : Exported → Compound → List OpResult → CompoundReply
compound_reply export c answers =
    let results = (compound_outcome export c answers).results in
    record { status = request_status results c.request; tag = c.tag; results = results }

-- what the service is asked for a call, given its answers
abbrev pub asked : Exported → RpcCall → List OpResult → List Asked
asked export (calls.Compound xid principal c) answers = (compound_outcome export c answers).asked
asked export call answers = []

-- the reply to a call, if there is one, given the service's answers
abbrev pub reply : Exported → RpcCall → List OpResult → Option (List ℕ)
reply export calls.Silent answers = None
reply export (calls.Null xid) answers = Some (written_reply xid replies.Null)
reply export (calls.Compound xid principal c) answers =
    Some (written_reply xid (replies.Compound (compound_reply export c answers)))
reply export (calls.Answer xid answer) answers = Some (written_reply xid answer)
