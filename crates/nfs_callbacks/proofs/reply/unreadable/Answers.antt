use Rattle.std.proofs.Common.{◌∙◌}
use Rattle.nfs_callbacks.proofs.Reasons.{no_number, number_there, same_number, tells_nothing}
use Rattle.nfs_callbacks.proofs.reply.unreadable.Goals as goal

pub returns-in-Ok : goal.returns-in-Ok
returns-in-Ok c compound unlike =
    tells_nothing compound c.args.xid c.args.message.now unlike
    (λ other has apart. apart (same_number c.in-Ok.other other c.args.message.now c.in-Ok.field-0-1.now c.in-Ok.ensures has
    ∙ c.if-other-xid.true))

pub returns-in-Ok-2 : goal.returns-in-Ok-2
returns-in-Ok-2 c compound unlike = (
  c.in-Ok.other,
  number_there c.in-Ok.other c.args.message.now c.in-Ok.field-0-1.now c.in-Ok.ensures,
  c.if-other-xid.false,
)

pub returns-in-Err : goal.returns-in-Err
returns-in-Err c compound unlike =
    tells_nothing compound c.args.xid c.args.message.now unlike
    (λ other has apart. no_number c.args.message.now c.in-Err.field-0 c.in-Err.ensures other has)
