use Rattle.std.proofs.Common.{Ok, Err, true, false}
use Rattle.nfs_rpc.proofs.CallbackReplies.{reply_stands}
use Rattle.nfs_rpc.proofs.callback_reply.read_cb_reply.Goals as goal

pub returns-in-Ok-true : goal.returns-in-Ok-true
returns-in-Ok-true c = reply_stands c.args.compound c.args.xid c.args.message.now (Ok true) (rw c.in-Ok-true.field-0-test at c.in-Ok-true.ensures)

pub returns-in-Ok-false : goal.returns-in-Ok-false
returns-in-Ok-false c = reply_stands c.args.compound c.args.xid c.args.message.now (Ok false) (rw c.in-Ok-false.field-0-test at c.in-Ok-false.ensures)

pub returns-in-Err : goal.returns-in-Err
returns-in-Err c = reply_stands c.args.compound c.args.xid c.args.message.now (Err c.in-Err.field-0) c.in-Err.ensures
