-- How a reply to a callback is read, step by step, in the order of the code. It gives what `IsTakenAs` says.
use Rattle.std.specs.Prelude.{ℕ, Bool, true, false, ◌==◌, List, Result, Ok, Err, if◌then◌else◌}
use Rattle.nfs_rpc.specs.declared.callback_reply.CallbackReply.{CallbackReply}
use Rattle.nfs_rpc.specs.declared.callback_reply.CallbackReply.TheVariants.{Accepted, Refused, Unreadable}
use Rattle.nfs_rpc.specs.declared.reply.TheConstants.{ACCEPTED_GARBAGE_ARGS, ACCEPTED_PROC_UNAVAIL, ACCEPTED_PROG_MISMATCH, ACCEPTED_PROG_UNAVAIL, ACCEPTED_SUCCESS, ACCEPTED_SYSTEM_ERR, DENIED_AUTH_ERROR, DENIED_RPC_MISMATCH, MESSAGE_REPLY, REPLY_ACCEPTED, REPLY_DENIED}
use Rattle.nfs_rpc.specs.Credential.{opaque_auth}
use Rattle.nfs_rpc.specs.CallbackReply.{OK, cb_compound_head, recall_result, versions}
use Rattle.xdr.specs.declared.wire_error.WireError.{WireError}
use Rattle.xdr.specs.declared.wire_error.WireError.TheVariants as errors
use Rattle.xdr.specs.Form.{Form, ◌and◌, u32, constant}
use Rattle.xdr.specs.Reading.{◌>>=◌}

-- whether a reply accepts the call, or why it can't be read
abbrev pub ReplyRead : Type 0
ReplyRead = Result Bool WireError

-- the beginning of each reply to the call of this xid: its reply_stat is read
abbrev pub reply_start : ℕ → Form (Unit {0} × (Unit {0} × ℕ))
reply_start xid = constant xid and constant MESSAGE_REPLY and u32

-- the verifier and the state of an accepted reply
abbrev pub accepted_head : Form ((ℕ × List ℕ) × ℕ)
accepted_head = opaque_auth and u32

-- a refusal, once a value of this form is read
abbrev pub refused_at : {A : Type 0} → Form A → List ℕ → ReplyRead
refused_at form bytes = form.at bytes >>= λ value. Ok false

-- whether the status is OK, once the first of its results is read
abbrev pub results_at : ℕ → ℕ → List ℕ → ReplyRead
results_at status count bytes =
    if count == 0 then Ok (status == OK)
    else recall_result.at bytes >>= λ value. Ok (status == OK)

abbrev pub cb_compound_at : List ℕ → ReplyRead
cb_compound_at bytes = cb_compound_head.at bytes >>= λ h. results_at h.0.0 h.0.1.1 h.1

abbrev pub success_at : Bool → List ℕ → ReplyRead
success_at compound bytes = if compound then cb_compound_at bytes else Ok true

abbrev pub in_state_at : Bool → ℕ → List ℕ → ReplyRead
in_state_at compound state bytes =
    if state == ACCEPTED_SUCCESS then success_at compound bytes
    else if state == ACCEPTED_PROG_UNAVAIL then Ok false
    else if state == ACCEPTED_PROG_MISMATCH then refused_at versions bytes
    else if state == ACCEPTED_PROC_UNAVAIL then Ok false
    else if state == ACCEPTED_GARBAGE_ARGS then Ok false
    else if state == ACCEPTED_SYSTEM_ERR then Ok false
    else Err errors.Short

abbrev pub accepted_at : Bool → List ℕ → ReplyRead
accepted_at compound bytes = accepted_head.at bytes >>= λ h. in_state_at compound h.0.1 h.1

abbrev pub denied_in_state_at : ℕ → List ℕ → ReplyRead
denied_in_state_at state bytes =
    if state == DENIED_RPC_MISMATCH then refused_at versions bytes
    else if state == DENIED_AUTH_ERROR then refused_at u32 bytes
    else Err errors.Short

abbrev pub denied_at : List ℕ → ReplyRead
denied_at bytes = u32.at bytes >>= λ state. denied_in_state_at state.0 state.1

abbrev pub after_start : Bool → ℕ → List ℕ → ReplyRead
after_start compound stat bytes =
    if stat == REPLY_ACCEPTED then accepted_at compound bytes
    else if stat == REPLY_DENIED then denied_at bytes
    else Err errors.Short

abbrev pub reply_at : Bool → ℕ → List ℕ → ReplyRead
reply_at compound xid bytes =
    (reply_start xid).at bytes >>= λ s. after_start compound s.0.1.1 s.1

abbrev pub reply_of : ReplyRead → CallbackReply
reply_of (Ok true) = Accepted
reply_of (Ok false) = Refused
reply_of (Err e) = Unreadable
