use Rattle.std.proofs.Common.{arith}
use Rattle.nfs_rpc.specs.Reply.{written_reply}
use Rattle.nfs_rpc.specs.declared.reply.Reply.TheVariants as replies
use Rattle.nfs_server.proofs.Replying.{record_length}
use Rattle.nfs_server.proofs.answered_call.AnsweredCall.with_results.Goals as goal

pub invariant_of-result : goal.invariant_of-result
invariant_of-result c =
    ((c.requires.fits, omega (arith, c.requires.len, c.requires.short)), omega (arith, c.requires.len, record_length (written_reply c.args.xid (replies.Compound c.args.answered.reply))))
