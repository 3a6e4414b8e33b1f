use Rattle.std.proofs.Common.{ℕ, List, Option, length, ap, arith, subst}
use Rattle.nfs_rpc.specs.Reply.{written_reply}
use Rattle.nfs_rpc.specs.declared.reply.Reply.{Reply}
use Rattle.nfs_server.specs.AnsweredCall.{CanBeWritten, reply_bytes}
use Rattle.nfs_server.proofs.Replying.{record_length}
use Rattle.nfs_server.proofs.answered_call.AnsweredCall.write.Goals as goal

pub put_record-requires-clause-short : goal.put_record-requires-clause-short
put_record-requires-clause-short c =
    let can = subst CanBeWritten c.in-Some.is c.self.invariant.0 in
    omega (arith, can.1)

pub put_record-requires-clause-fits : goal.put_record-requires-clause-fits
put_record-requires-clause-fits c =
    let can = subst CanBeWritten c.in-Some.is c.self.invariant.0 in
    can.0

pub put_record-requires-clause-len : goal.put_record-requires-clause-len
put_record-requires-clause-len c =
    omega (arith, c.self.invariant.1, ap (λ (r : Option (ℕ × Reply)). length (reply_bytes r)) c.in-Some.is, record_length (written_reply c.in-Some.xid c.in-Some.reply))

pub put_record-requires-clause-room : goal.put_record-requires-clause-room
put_record-requires-clause-room c =
    omega (arith, c.requires, c.self.invariant.1, ap (λ (b : List ℕ). length b) c.self.view_is)
