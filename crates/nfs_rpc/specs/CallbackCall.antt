-- The calls that a server makes to a client's callback program (RFC 7530, sections 17 and 18; RFC 7531, NFS4_CALLBACK).
use Rattle.std.specs.Prelude.{ℕ, Bool, false, List, []}
use Rattle.nfs_rpc.specs.declared.callback_call.TheConstants.{CALLBACK_VERSION, CB_COMPOUND, CB_NULL, OP_CB_RECALL}
use Rattle.nfs_rpc.specs.declared.credential.TheConstants.{AUTH_NONE, AUTH_SYS}
use Rattle.nfs_rpc.specs.declared.recall.Recall.{Recall}
use Rattle.nfs_rpc.specs.declared.rpc_call.TheConstants.{RPC_VERSION}
use Rattle.nfs_rpc.specs.AuthSys.{auth_sys}
use Rattle.nfs_rpc.specs.Credential.{OpaqueAuth}
use Rattle.nfs_rpc.specs.Reply.{no_verifier}
use Rattle.nfs_rpc.specs.RpcCall.{CallHeader, header}
use Rattle.nfs_forms.specs.FileHandle.{file_handle}
use Rattle.nfs_forms.specs.Stateid.{stateid}
use Rattle.nfs_forms.specs.declared.principal.Principal.{Principal}
use Rattle.nfs_forms.specs.declared.principal.Principal.TheVariants.{AuthNone, AuthSys}
use Rattle.nfs_forms.specs.declared.stateid.Stateid.{Stateid}
use Rattle.xdr.specs.Form.{Form, ◌and◌, u32, flag, bytes, constant}

-- The credential with which a client is called back: that of its own flavor (RFC 7530, section 3.3.3). Under AUTH_SYS
-- it names the client's user, with no stamp, no machine and no groups.
abbrev pub credential_of : Principal → OpaqueAuth
credential_of AuthNone = (AUTH_NONE, [])
credential_of (AuthSys uid) = (
  AUTH_SYS,
  auth_sys.encoding (record {
    stamp = 0;
    machine_name = [];
    uid = uid;
    gid = 0;
    gids = [];
  }),
)

-- the header of a call to this program, with this credential and an empty verifier
abbrev pub callback_header : ℕ → ℕ → ℕ → Principal → CallHeader
callback_header xid program procedure principal = (
  record { xid = xid; rpc_version = RPC_VERSION },
  record {
    program = program;
    version = CALLBACK_VERSION;
    procedure = procedure;
    credential = credential_of principal;
    verifier = no_verifier;
  },
)

-- CB_NULL has no arguments. It is called with AUTH_NONE whoever the client is.
abbrev pub null_call : ℕ → ℕ → CallHeader
null_call xid program = callback_header xid program CB_NULL AuthNone

-- struct CB_COMPOUND4args { utf8str_cs tag; uint32_t minorversion; uint32_t callback_ident;
--   nfs_cb_argop4 argarray<>; };
-- union nfs_cb_argop4 switch (unsigned argop) { case OP_CB_RECALL: CB_RECALL4args opcbrecall; /* and others */ };
-- This is the form of a list with CB_RECALL alone, up to that operation's arguments.
abbrev pub recall_list : Form (List ℕ × (ℕ × (ℕ × (Unit {0} × Unit {0}))))
recall_list = bytes and u32 and u32 and constant 1 and constant OP_CB_RECALL

-- struct CB_RECALL4args { stateid4 stateid; bool truncate; nfs_fh4 fh; };
abbrev pub recall_operation : Form (Stateid × (Bool × List ℕ))
recall_operation = stateid and flag and file_handle

abbrev pub RecallArgs : Type 0
RecallArgs = (List ℕ × (ℕ × (ℕ × (Unit {0} × Unit {0})))) × (Stateid × (Bool × List ℕ))

abbrev pub recall_args : Form RecallArgs
recall_args = recall_list and recall_operation

-- a call of CB_COMPOUND with these arguments
abbrev pub recall_form : Form (CallHeader × RecallArgs)
recall_form = header and recall_args

-- an empty tag, the minor version 0 and the callback_ident that the client gave
abbrev pub recall_head : Recall → List ℕ × (ℕ × (ℕ × (Unit {0} × Unit {0})))
recall_head recall = ([], (0, (recall.callback.ident, (tt, tt))))

-- the delegation and its file, which nobody truncates
abbrev pub recall_target : Recall → Stateid × (Bool × List ℕ)
recall_target recall = (recall.stateid, (false, recall.handle))

-- The call by which a delegation is recalled.
abbrev pub recall_call : ℕ → Recall → CallHeader × RecallArgs
recall_call xid recall = (
  callback_header xid recall.callback.program CB_COMPOUND recall.principal,
  (recall_head recall, recall_target recall),
)
