use Rattle.nfs_callbacks.proofs.Reasons.{denied_there}
use Rattle.nfs_callbacks.proofs.reply.read_denied.Goals as goal

pub returns-clause-ok : goal.returns-clause-ok
returns-clause-ok c =
    denied_there c.args.xid c.in_ok-state.state c.args.message.now c.in_ok-rest.rest.now c.in_ok-rest-2.rest.now
    c.in_ok-rest-3.rest.now c.in_ok-state.field-0-1.now c.in_ok-rest.ensures c.in_ok-rest-2.ensures c.in_ok-rest-3.ensures
    c.in_ok-state.ensures
