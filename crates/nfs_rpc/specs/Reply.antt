-- RPC replies (RFC 5531, section 9).
use Rattle.std.specs.Prelude.{ℕ, ◌+◌, ◌^◌, List, [], ◌++◌, length}
use Rattle.std.proofs.Common.{refl}
use Rattle.nfs_rpc.specs.declared.rpc_call.TheConstants.{NFS_VERSION, RPC_VERSION}
use Rattle.nfs_rpc.specs.declared.credential.TheConstants.{AUTH_NONE}
use Rattle.nfs_rpc.specs.declared.reply.CompoundReply.{CompoundReply}
use Rattle.nfs_rpc.specs.declared.reply.Reply.{Reply}
use Rattle.nfs_rpc.specs.declared.reply.Reply.TheVariants.{Null, Compound, ProgUnavail, ProgMismatch, ProcUnavail, GarbageArgs, SystemError, RpcMismatch, AuthError}
use Rattle.nfs_rpc.specs.declared.reply.TheConstants.{ACCEPTED_GARBAGE_ARGS, ACCEPTED_PROC_UNAVAIL, ACCEPTED_PROG_MISMATCH, ACCEPTED_PROG_UNAVAIL, ACCEPTED_SUCCESS, ACCEPTED_SYSTEM_ERR, AUTH_BADCRED, DENIED_AUTH_ERROR, DENIED_RPC_MISMATCH, MESSAGE_REPLY, REPLY_ACCEPTED, REPLY_DENIED}
use Rattle.nfs_rpc.specs.Credential.{OpaqueAuth, opaque_auth}
use Rattle.nfs_xdr.specs.Compound.{compound_result}
use Rattle.xdr.specs.Form.{Form, ◌and◌, of, u32, constant}
use Rattle.xdr.specs.Switch.{Arm, arm}
use Rattle.xdr.specs.Writing.{written_u32}

-- struct rpc_msg { unsigned int xid; union switch (msg_type mtype)
--   { case CALL: call_body cbody; case REPLY: reply_body rbody; } body; };
-- union reply_body switch (reply_stat stat)
--   { case MSG_ACCEPTED: accepted_reply areply; case MSG_DENIED: rejected_reply rreply; };

-- The form of an accepted reply up to the data that depends on its state: an xid and a verifier.
-- struct accepted_reply { opaque_auth verf; union switch (accept_stat stat)
--   { case SUCCESS: opaque results[0];
--     case PROG_MISMATCH: struct { unsigned int low; unsigned int high; } mismatch_info;
--     default: void; } reply_data; };
abbrev pub accepted_reply : ℕ → Form (ℕ × OpaqueAuth)
accepted_reply state =
    of (λ p. (p.0, p.1.1.1.0)) (λ v. (v.0, (tt, (tt, (v.1, tt))))) (λ p. refl) (λ v. refl)
    (u32 and constant MESSAGE_REPLY and constant REPLY_ACCEPTED and opaque_auth and constant state)

-- The form of a denied reply up to the data that depends on its state: an xid.
-- union rejected_reply switch (reject_stat stat)
--   { case RPC_MISMATCH: struct { unsigned int low; unsigned int high; } mismatch_info;
--     case AUTH_ERROR: auth_stat stat; };
abbrev pub denied_reply : ℕ → Form ℕ
denied_reply state =
    of (λ p. p.0) (λ xid. (xid, (tt, (tt, tt)))) (λ p. refl) (λ xid. refl)
    (u32 and constant MESSAGE_REPLY and constant REPLY_DENIED and constant state)

-- struct { unsigned int low; unsigned int high; } mismatch_info, of a server that serves one version
abbrev pub mismatch_info : ℕ → Form (Unit {0} × Unit {0})
mismatch_info version = constant version and constant version

-- the verifier in every reply
abbrev pub no_verifier : OpaqueAuth
no_verifier = (AUTH_NONE, [])

-- A reply to the call of this xid: its form, and the value that is written in it.
abbrev pub reply_arm : ℕ → Reply → Arm Reply
reply_arm xid Null = arm (accepted_reply ACCEPTED_SUCCESS) (λ v. Null) (xid, no_verifier)
reply_arm xid (Compound c) =
    arm (accepted_reply ACCEPTED_SUCCESS and compound_result)
    (λ v. Compound (record { status = v.1.0; tag = v.1.1.0; results = v.1.1.1 }))
    ((xid, no_verifier), (c.status, (c.tag, c.results)))
reply_arm xid ProgUnavail =
    arm (accepted_reply ACCEPTED_PROG_UNAVAIL) (λ v. ProgUnavail) (xid, no_verifier)
reply_arm xid ProgMismatch =
    arm (accepted_reply ACCEPTED_PROG_MISMATCH and mismatch_info NFS_VERSION) (λ v. ProgMismatch)
    ((xid, no_verifier), (tt, tt))
reply_arm xid ProcUnavail =
    arm (accepted_reply ACCEPTED_PROC_UNAVAIL) (λ v. ProcUnavail) (xid, no_verifier)
reply_arm xid GarbageArgs =
    arm (accepted_reply ACCEPTED_GARBAGE_ARGS) (λ v. GarbageArgs) (xid, no_verifier)
reply_arm xid SystemError =
    arm (accepted_reply ACCEPTED_SYSTEM_ERR) (λ v. SystemError) (xid, no_verifier)
reply_arm xid RpcMismatch =
    arm (denied_reply DENIED_RPC_MISMATCH and mismatch_info RPC_VERSION) (λ v. RpcMismatch)
    (xid, (tt, tt))
reply_arm xid AuthError =
    arm (denied_reply DENIED_AUTH_ERROR and constant AUTH_BADCRED) (λ v. AuthError) (xid, tt)

-- the bytes of an accepted reply up to the data that depends on its state
abbrev pub written_accepted : ℕ → ℕ → List ℕ
written_accepted xid state = (accepted_reply state).encoding (xid, no_verifier)

abbrev pub written_compound_reply : CompoundReply → List ℕ
written_compound_reply c = compound_result.encoding (c.status, (c.tag, c.results))

-- the one encoding of a reply to the call of this xid
abbrev pub written_reply : ℕ → Reply → List ℕ
written_reply xid reply = (reply_arm xid reply).encoding

-- the lengths in a reply are within what its form can express
abbrev pub IsWritable : ℕ → Reply → Type 0
IsWritable xid reply = (reply_arm xid reply).Fits

-- a message as a record of one fragment (RFC 5531, section 11)
abbrev pub written_record : List ℕ → List ℕ
written_record message = written_u32 (2 ^ 31 + length message) ++ message
