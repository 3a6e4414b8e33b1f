-- A reply that is to be written, as contracts see a call that was answered.
use Rattle.std.specs.Prelude.{ℕ, ◌≤◌, List, [], length, Option, Some, None}
use Rattle.nfs_rpc.specs.Reply.{IsWritable, written_record, written_reply}
use Rattle.nfs_rpc.specs.declared.records.TheConstants.{RECORD_LIMIT}
use Rattle.nfs_rpc.specs.declared.reply.Reply.{Reply}

-- the bytes of a reply, with its xid, as one record of one fragment; none without a reply
abbrev pub reply_bytes : Option (ℕ × Reply) → List ℕ
reply_bytes None = []
reply_bytes (Some reply) = written_record (written_reply reply.0 reply.1)

-- the reply fits its form, and isn't too long for a record
abbrev pub CanBeWritten : Option (ℕ × Reply) → Type 0
CanBeWritten None = Unit {0}
CanBeWritten (Some reply) =
    IsWritable reply.0 reply.1 × (length (written_reply reply.0 reply.1) ≤ RECORD_LIMIT)
