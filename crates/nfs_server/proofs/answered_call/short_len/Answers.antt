use Rattle.std.proofs.Common.{◌∙◌, ◌≤◌, length, ap, sym, subst}
use Rattle.nfs_rpc.specs.Reply.{written_reply}
use Rattle.nfs_rpc.specs.declared.reply.Reply.{Reply}
use Rattle.nfs_rpc.specs.declared.reply.TheConstants.{SHORT_REPLY_LEN}
use Rattle.nfs_server.proofs.Replying.{length_auth_error, length_of_accepted, length_prog_mismatch, length_rpc_mismatch, not_short}
use Rattle.nfs_server.proofs.answered_call.short_len.Goals as goal

pub unreachable-requires : goal.unreachable-requires
unreachable-requires c =
    not_short c.requires.0 c.in-Compound.field-0 (subst (λ (r : Reply). length (written_reply c.requires.0 r) ≤ SHORT_REPLY_LEN) c.in-Compound.is c.requires.1)

pub returns-in-Null : goal.returns-in-Null
returns-in-Null c = λ xid. length_of_accepted xid c.args.reply.now c.in-Null.is

pub returns-in-Null-2 : goal.returns-in-Null-2
returns-in-Null-2 c = λ xid. length_of_accepted xid c.args.reply.now c.in-Null.is

pub returns-in-Null-3 : goal.returns-in-Null-3
returns-in-Null-3 c = λ xid. length_of_accepted xid c.args.reply.now c.in-Null.is

pub returns-in-Null-4 : goal.returns-in-Null-4
returns-in-Null-4 c = λ xid. length_of_accepted xid c.args.reply.now c.in-Null.is

pub returns-in-Null-5 : goal.returns-in-Null-5
returns-in-Null-5 c = λ xid. length_of_accepted xid c.args.reply.now c.in-Null.is

pub returns-in-ProgMismatch : goal.returns-in-ProgMismatch
returns-in-ProgMismatch c = λ xid. sym (ap (λ (r : Reply). length (written_reply xid r)) c.in-ProgMismatch.is ∙ length_prog_mismatch xid)

pub returns-in-RpcMismatch : goal.returns-in-RpcMismatch
returns-in-RpcMismatch c = λ xid. sym (ap (λ (r : Reply). length (written_reply xid r)) c.in-RpcMismatch.is ∙ length_rpc_mismatch xid)

pub returns-in-AuthError : goal.returns-in-AuthError
returns-in-AuthError c = λ xid. sym (ap (λ (r : Reply). length (written_reply xid r)) c.in-AuthError.is ∙ length_auth_error xid)
