use Rattle.std.proofs.Common.{arith}
use Rattle.nfs_rpc.specs.Reply.{written_reply}
use Rattle.nfs_server.proofs.Replying.{record_length}
use Rattle.nfs_server.proofs.answered_call.AnsweredCall.with_short_reply.Goals as goal

pub short_len-len-requires : goal.short_len-len-requires
short_len-len-requires c = (c.args.xid, c.requires.short)

pub invariant_of-result : goal.invariant_of-result
invariant_of-result c =
    ((c.requires.fits, omega (arith, c.requires.short)), omega (arith, c.short_len-len.ensures c.args.xid, record_length (written_reply c.args.xid c.args.reply)))
