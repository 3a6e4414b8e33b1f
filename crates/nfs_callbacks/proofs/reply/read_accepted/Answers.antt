use Rattle.nfs_callbacks.proofs.Reasons.{accepted_there}
use Rattle.nfs_callbacks.proofs.reply.read_accepted.Goals as goal

pub returns-clause-ok : goal.returns-clause-ok
returns-clause-ok c =
    accepted_there c.args.xid c.in_ok-state.state c.in_ok-_flavor._flavor c.in_ok-_body._body.now c.args.message.now
    c.in_ok-rest.rest.now c.in_ok-rest-2.rest.now c.in_ok-rest-3.rest.now c.in_ok-_flavor.rest.now c.in_ok-_body.rest.now
    c.in_ok-state.rest.now c.in_ok-rest.ensures c.in_ok-rest-2.ensures c.in_ok-rest-3.ensures c.in_ok-_flavor.ensures
    c.in_ok-_body.ensures.reads c.in_ok-state.ensures
