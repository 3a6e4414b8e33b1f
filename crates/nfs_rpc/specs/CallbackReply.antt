-- A client's reply to a callback (RFC 5531, section 9; RFC 7530, section 17), as the server takes it.
use Rattle.std.specs.Prelude.{◌≡◌, ℕ, zero, suc, ◌⊎◌, Bool, true, false, List}
use Rattle.nfs_rpc.specs.declared.callback_call.TheConstants.{OP_CB_RECALL}
use Rattle.nfs_rpc.specs.declared.callback_reply.CallbackReply.{CallbackReply}
use Rattle.nfs_rpc.specs.declared.callback_reply.CallbackReply.TheVariants.{Accepted, Refused, Unreadable}
use Rattle.nfs_rpc.specs.declared.reply.TheConstants.{ACCEPTED_GARBAGE_ARGS, ACCEPTED_PROC_UNAVAIL, ACCEPTED_PROG_MISMATCH, ACCEPTED_PROG_UNAVAIL, ACCEPTED_SUCCESS, ACCEPTED_SYSTEM_ERR, DENIED_AUTH_ERROR, DENIED_RPC_MISMATCH}
use Rattle.nfs_rpc.specs.Credential.{OpaqueAuth}
use Rattle.nfs_rpc.specs.Reply.{accepted_reply, denied_reply}
use Rattle.nfs_forms.specs.Status.{number_of}
use Rattle.nfs_forms.specs.declared.status.Status.TheVariants.{Ok}
use Rattle.xdr.specs.Form.{Form, ◌and◌, u32, bytes as opaque_bytes, constant}
use Rattle.xdr.specs.Reading.{Begins}

-- the number of NFS4_OK
abbrev pub OK : ℕ
OK = number_of Ok

-- a value of this form is at the front, whatever follows it
abbrev pub Holds : {A : Type 0} → Form A → List ℕ → Type 0
Holds {A = A} form bytes = (value : A) × (rest : List ℕ) × Begins (form.layout value) bytes rest

-- The record begins with an accepted reply of this xid and state, with any verifier, and this holds for the bytes after
-- the state.
abbrev pub IsAccepted : ℕ → ℕ → (List ℕ → Type 0) → List ℕ → Type 0
IsAccepted xid state Is message =
    (verifier : OpaqueAuth) × (rest : List ℕ)
    × Begins ((accepted_reply state).layout (xid, verifier)) message rest × Is rest

-- The record begins with a denied reply of this xid and state, and this holds for the bytes after the state.
abbrev pub IsDenied : ℕ → ℕ → (List ℕ → Type 0) → List ℕ → Type 0
IsDenied xid state Is message =
    (rest : List ℕ) × Begins ((denied_reply state).layout xid) message rest × Is rest

-- struct { unsigned int low; unsigned int high; } mismatch_info
abbrev pub versions : Form (ℕ × ℕ)
versions = u32 and u32

-- struct CB_COMPOUND4res { nfsstat4 status; utf8str_cs tag; nfs_cb_resop4 resarray<>; };
-- These are its status, its tag and the count of its results.
abbrev pub cb_compound_head : Form (ℕ × (List ℕ × ℕ))
cb_compound_head = u32 and opaque_bytes and u32

-- union nfs_cb_resop4 switch (unsigned resop) { case OP_CB_RECALL: CB_RECALL4res opcbrecall; /* and others */ };
-- struct CB_RECALL4res { nfsstat4 status; };
abbrev pub recall_result : Form (Unit {0} × ℕ)
recall_result = constant OP_CB_RECALL and u32

-- The results begin with that of CB_RECALL, whatever its status, unless there are none: a client that refuses the
-- whole COMPOUND, as for its minor version, runs no operation.
abbrev pub HasResults : ℕ → List ℕ → Type 0
HasResults zero bytes = Unit {0}
HasResults (suc more) bytes = Holds recall_result bytes

-- The result of CB_COMPOUND, if that was called, and otherwise that of CB_NULL, is at the front and has this status.
-- CB_NULL's result is empty, which is OK.
abbrev pub HasStatus : Bool → ℕ → List ℕ → Type 0
HasStatus true status bytes =
    (tag : List ℕ) × (count : ℕ) × (rest : List ℕ)
    × Begins (cb_compound_head.layout (status, (tag, count))) bytes rest × HasResults count rest
HasStatus false status bytes = status ≡ OK

-- The record begins with the reply SUCCESS to the call of this xid, with status OK. The status of a COMPOUND is that of
-- its last operation (RFC 7530, sections 15.2 and 17.2), so it alone says whether the operation succeeded: a reply
-- whose results say something else, or that has none, is taken by its status.
abbrev pub SaysOk : Bool → ℕ → List ℕ → Type 0
SaysOk compound xid = IsAccepted xid ACCEPTED_SUCCESS (HasStatus compound OK)

-- the states of accepted replies with nothing after them
abbrev pub IsBare : ℕ → Type 0
IsBare state =
    (state ≡ ACCEPTED_PROG_UNAVAIL) ⊎ (state ≡ ACCEPTED_PROC_UNAVAIL)
    ⊎ (state ≡ ACCEPTED_GARBAGE_ARGS) ⊎ (state ≡ ACCEPTED_SYSTEM_ERR)

-- The record begins with a reply to the call of this xid. Each form of a reply is here (RFC 5531, section 9), so what
-- has another number for its kind or its state is none.
abbrev pub IsReply : Bool → ℕ → List ℕ → Type 0
IsReply compound xid bytes =
    ((status : ℕ) × IsAccepted xid ACCEPTED_SUCCESS (HasStatus compound status) bytes)
    ⊎ IsAccepted xid ACCEPTED_PROG_MISMATCH (Holds versions) bytes
    ⊎ ((state : ℕ) × IsBare state × IsAccepted xid state (λ rest. Unit {0}) bytes)
    ⊎ IsDenied xid DENIED_RPC_MISMATCH (Holds versions) bytes
    ⊎ IsDenied xid DENIED_AUTH_ERROR (Holds u32) bytes

-- What a record is to the server that awaits the reply to the call of this xid. Each record is one of the three.
abbrev pub IsTakenAs : Bool → ℕ → List ℕ → CallbackReply → Type 0
IsTakenAs compound xid bytes Accepted = SaysOk compound xid bytes
IsTakenAs compound xid bytes Refused = IsReply compound xid bytes × (SaysOk compound xid bytes → ⊥)
IsTakenAs compound xid bytes Unreadable = IsReply compound xid bytes → ⊥
