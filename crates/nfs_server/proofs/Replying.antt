-- The reply to a record.
use Rattle.std.proofs.Common.{◌≡◌, ◌∙◌, ℕ, ◌+◌, ◌≤◌, List, ◌++◌, length, Option, Some, None, Result, Ok, Err, ap, inl, inr, refl, sym, arith}
use Rattle.std.specs.Prelude.{◌^◌, ◌⊎◌, OnOk, OnErr, IsOk}
use Rattle.std.proofs.lemmas.List.{length-append}
use Rattle.nfs_rpc.specs.declared.records.TheConstants.{RECORD_LIMIT}
use Rattle.nfs_rpc.specs.declared.reply.CompoundReply.{CompoundReply}
use Rattle.nfs_rpc.specs.declared.reply.Reply.TheVariants as replies
use Rattle.nfs_rpc.specs.declared.reply.TheConstants.{ACCEPTED_GARBAGE_ARGS, ACCEPTED_LEN, ACCEPTED_PROC_UNAVAIL, ACCEPTED_PROG_UNAVAIL, ACCEPTED_SUCCESS, ACCEPTED_SYSTEM_ERR, SHORT_REPLY_LEN}
use Rattle.nfs_server.specs.Answering.{head_size}
use Rattle.nfs_server.specs.AnsweredCall.{CanBeWritten, reply_bytes}
use Rattle.nfs_server.specs.declared.answered_call.TheConstants.{REPLY_LIMIT}
use Rattle.nfs_rpc.specs.declared.reply.Reply.{Reply}
use Rattle.nfs_rpc.specs.Reply.{written_accepted, written_record, written_reply}
use Rattle.nfs_xdr.specs.Compound.{compound_result}
use Rattle.nfs_forms.specs.Status.{status}
use Rattle.std.specs.List.{flat_map}
use Rattle.nfs_xdr.specs.OpResult.{op_result}
use Rattle.byteorder.specs.Numbers.{length-bytes_high_first}
use Rattle.xdr.specs.Layout.{padding_of}
use Rattle.xdr.specs.Writing.{written_number, written_opaque, written_u32, zeros}

pub length_accepted : (xid state : ℕ) → length (written_accepted xid state) ≡ ACCEPTED_LEN
unfolding written_opaque written_number
length_accepted xid state = refl

abbrev result_of : CompoundReply → List ℕ
result_of reply = compound_result.encoding (reply.status, (reply.tag, reply.results))

-- the length of the reply's record is that of its head and the results
pub reply_len : (reply : CompoundReply) → ACCEPTED_LEN + length (result_of reply) ≡ head_size reply.tag + length (flat_map op_result.encoding reply.results)
unfolding status written_number
reply_len reply = omega (arith, length-append (written_opaque reply.tag) (written_u32 (length reply.results) ++ flat_map op_result.encoding reply.results))

-- the reply to a COMPOUND is within the limit of a record
pub reply_fits : (xid : ℕ) (reply : CompoundReply) → ACCEPTED_LEN + length (result_of reply) ≤ RECORD_LIMIT → length (written_reply xid (replies.Compound reply)) ≤ RECORD_LIMIT
reply_fits xid reply fits = omega (arith, length-append (written_accepted xid ACCEPTED_SUCCESS) (result_of reply), length_accepted xid ACCEPTED_SUCCESS)

-- bytes with their length take four bytes at least
opaque_some : (bytes : List ℕ) → 4 ≤ length (written_opaque bytes)
unfolding written_opaque written_number
opaque_some bytes =
    omega (arith, length-append (written_u32 (length bytes)) (bytes ++ zeros (padding_of (length bytes))), length-bytes_high_first 4 (length bytes))

-- a reply to a COMPOUND is none of those that need no service
pub not_short : (xid : ℕ) (reply : CompoundReply) → length (written_reply xid (replies.Compound reply)) ≤ SHORT_REPLY_LEN → ⊥
not_short xid reply short =
    omega (arith, short, length-append (written_accepted xid ACCEPTED_SUCCESS) (result_of reply), length_accepted xid ACCEPTED_SUCCESS, reply_len reply, opaque_some reply.tag)

-- the length of the reply to a COMPOUND, without the header of its record
pub reply_length : (xid : ℕ) (reply : CompoundReply) → length (written_reply xid (replies.Compound reply)) ≡ ACCEPTED_LEN + length (result_of reply)
reply_length xid reply = omega (arith, length-append (written_accepted xid ACCEPTED_SUCCESS) (result_of reply), length_accepted xid ACCEPTED_SUCCESS)

-- a record of one fragment has a header of four bytes
pub record_length : (message : List ℕ) → length (written_record message) ≡ 4 + length message
unfolding written_number
record_length message = omega (arith, length-append (written_u32 (2 ^ 31 + length message)) message, length-bytes_high_first 4 (2 ^ 31 + length message))

-- the replies that are accepted, and have nothing behind their state
pub length_of_accepted : (xid : ℕ) (reply : Reply)
    → (reply ≡ replies.Null) ⊎ ((reply ≡ replies.ProgUnavail) ⊎ ((reply ≡ replies.ProcUnavail) ⊎ ((reply ≡ replies.GarbageArgs) ⊎ (reply ≡ replies.SystemError))))
    → ACCEPTED_LEN ≡ length (written_reply xid reply)
length_of_accepted xid reply (inl is) = sym (ap (λ (r : Reply). length (written_reply xid r)) is ∙ length_accepted xid ACCEPTED_SUCCESS)
length_of_accepted xid reply (inr (inl is)) = sym (ap (λ (r : Reply). length (written_reply xid r)) is ∙ length_accepted xid ACCEPTED_PROG_UNAVAIL)
length_of_accepted xid reply (inr (inr (inl is))) = sym (ap (λ (r : Reply). length (written_reply xid r)) is ∙ length_accepted xid ACCEPTED_PROC_UNAVAIL)
length_of_accepted xid reply (inr (inr (inr (inl is)))) = sym (ap (λ (r : Reply). length (written_reply xid r)) is ∙ length_accepted xid ACCEPTED_GARBAGE_ARGS)
length_of_accepted xid reply (inr (inr (inr (inr is)))) = sym (ap (λ (r : Reply). length (written_reply xid r)) is ∙ length_accepted xid ACCEPTED_SYSTEM_ERR)

-- the lengths of the other replies that need no service
pub length_prog_mismatch : (xid : ℕ) → length (written_reply xid replies.ProgMismatch) ≡ 32
unfolding written_opaque written_number
length_prog_mismatch xid = refl

pub length_rpc_mismatch : (xid : ℕ) → length (written_reply xid replies.RpcMismatch) ≡ 24
unfolding written_opaque written_number
length_rpc_mismatch xid = refl

pub length_auth_error : (xid : ℕ) → length (written_reply xid replies.AuthError) ≡ 20
unfolding written_opaque written_number
length_auth_error xid = refl

-- what can be written isn't longer than a reply may be
pub few_bytes : (reply : Option (ℕ × Reply)) → CanBeWritten reply → length (reply_bytes reply) ≤ REPLY_LIMIT
few_bytes None can = omega arith
few_bytes (Some reply) can = omega (arith, can.1, record_length (written_reply reply.0 reply.1))

pub on_ok : {T E : Type 0} (r : Result T E) (P Q : Type 0) → (P → Q) → OnOk r P → OnOk r Q
on_ok (Ok x) P Q f p = f p
on_ok (Err e) P Q f p = tt

pub no_err : {T E : Type 0} (r : Result T E) (P : Type 0) → IsOk r → OnErr r P
no_err (Ok x) P ok = tt
no_err (Err e) P ok = absurd cc
