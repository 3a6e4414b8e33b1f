-- Why a call didn't reach its client, by the record that came in place of the reply that accepts it.
use Rattle.std.specs.Prelude.{◌≢◌, ℕ, ◌==◌, List, Bool, Result, Ok, Err, if◌then◌else◌}
use Rattle.nfs_callbacks.specs.declared.fault.Fault.{Fault}
use Rattle.nfs_callbacks.specs.declared.fault.Fault.TheVariants as faults
use Rattle.nfs_rpc.specs.CallbackReply.{HasStatus, Holds, IsAccepted, IsDenied, SaysOk, versions}
use Rattle.nfs_rpc.specs.declared.reply.TheConstants.{ACCEPTED_GARBAGE_ARGS, ACCEPTED_PROC_UNAVAIL, ACCEPTED_PROG_MISMATCH, ACCEPTED_PROG_UNAVAIL, ACCEPTED_SUCCESS, ACCEPTED_SYSTEM_ERR, DENIED_AUTH_ERROR, DENIED_RPC_MISMATCH, MESSAGE_REPLY, REPLY_ACCEPTED, REPLY_DENIED}
use Rattle.nfs_rpc.specs.Credential.{OpaqueAuth, opaque_auth}
use Rattle.xdr.specs.Form.{Form, ◌and◌, constant, u32}
use Rattle.xdr.specs.Reading.{Begins, Read, number_at}

-- whatever follows
abbrev pub Anything : List ℕ → Type 0
Anything bytes = Unit {0}

-- this number is at the front
abbrev pub HasNumber : ℕ → List ℕ → Type 0
HasNumber n bytes = (rest : List ℕ) × Begins (u32.layout n) bytes rest

-- What a record tells of the call of this xid, if it doesn't accept the call. It is a reply to another call; or it
-- begins with a reply of this accept_stat or reject_stat (RFC 5531, section 9); or CB_COMPOUND's result has this
-- status. The other faults are of no record.
abbrev pub Tells : Bool → ℕ → List ℕ → Fault → Type 0
Tells compound xid message faults.OtherXid = (other : ℕ) × HasNumber other message × (other ≢ xid)
Tells compound xid message faults.ProgUnavail = IsAccepted xid ACCEPTED_PROG_UNAVAIL Anything message
Tells compound xid message faults.ProgMismatch = IsAccepted xid ACCEPTED_PROG_MISMATCH (Holds versions) message
Tells compound xid message faults.ProcUnavail = IsAccepted xid ACCEPTED_PROC_UNAVAIL Anything message
Tells compound xid message faults.GarbageArgs = IsAccepted xid ACCEPTED_GARBAGE_ARGS Anything message
Tells compound xid message faults.SystemError = IsAccepted xid ACCEPTED_SYSTEM_ERR Anything message
Tells compound xid message (faults.Status status) =
    IsAccepted xid ACCEPTED_SUCCESS (HasStatus compound status) message
Tells compound xid message faults.RpcMismatch = IsDenied xid DENIED_RPC_MISMATCH (Holds versions) message
Tells compound xid message faults.AuthError = IsDenied xid DENIED_AUTH_ERROR (Holds u32) message
Tells compound xid message faults.Unreadable = ⊥
Tells compound xid message faults.NoAddress = ⊥
Tells compound xid message faults.ConnectionRefused = ⊥
Tells compound xid message faults.Unreachable = ⊥
Tells compound xid message faults.TimedOut = ⊥
Tells compound xid message faults.ConnectionFailed = ⊥
Tells compound xid message faults.Closed = ⊥
Tells compound xid message faults.TooLong = ⊥

-- What a record says, if it doesn't accept the call. It can't be read only if it tells nothing.
abbrev pub Says : Bool → ℕ → List ℕ → Fault → Type 0
Says compound xid message faults.Unreadable = (fault : Fault) → Tells compound xid message fault → ⊥
Says compound xid message fault = Tells compound xid message fault

-- What a record is to the call of this xid: it accepts the call, or says otherwise.
abbrev pub IsAnswer : Bool → ℕ → List ℕ → Result (Unit {0}) Fault → Type 0
IsAnswer compound xid message (Ok done) = SaysOk compound xid message
IsAnswer compound xid message (Err fault) = (SaysOk compound xid message → ⊥) × Says compound xid message fault

-- the beginning of an accepted reply to the call of this xid: its verifier and its accept_stat
abbrev pub AcceptedHead : Type 0
AcceptedHead = Unit {0} × (Unit {0} × (Unit {0} × (OpaqueAuth × ℕ)))

abbrev pub accepted_head : ℕ → Form AcceptedHead
accepted_head xid =
    constant xid and constant MESSAGE_REPLY and constant REPLY_ACCEPTED and opaque_auth and u32

-- the beginning of a denied reply to the call of this xid: its reject_stat
abbrev pub DeniedHead : Type 0
DeniedHead = Unit {0} × (Unit {0} × (Unit {0} × ℕ))

abbrev pub denied_head : ℕ → Form DeniedHead
denied_head xid = constant xid and constant MESSAGE_REPLY and constant REPLY_DENIED and u32

-- How the fault is found, step by step, in the order of the code. It gives what `Says` says.
abbrev pub status_fault : Read ℕ → Fault
status_fault (Ok read) = faults.Status read.0
status_fault (Err error) = faults.Unreadable

abbrev pub accepted_fault : ℕ → List ℕ → Fault
accepted_fault state rest =
    if state == ACCEPTED_SUCCESS then status_fault (number_at 4 rest)
    else if state == ACCEPTED_PROG_UNAVAIL then faults.ProgUnavail
    else if state == ACCEPTED_PROG_MISMATCH then faults.ProgMismatch
    else if state == ACCEPTED_PROC_UNAVAIL then faults.ProcUnavail
    else if state == ACCEPTED_GARBAGE_ARGS then faults.GarbageArgs
    else if state == ACCEPTED_SYSTEM_ERR then faults.SystemError
    else faults.Unreadable

abbrev pub denied_fault : ℕ → Fault
denied_fault state =
    if state == DENIED_RPC_MISMATCH then faults.RpcMismatch
    else if state == DENIED_AUTH_ERROR then faults.AuthError
    else faults.Unreadable
