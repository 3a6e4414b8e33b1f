use Rattle.std.proofs.Common.{arith}
use Rattle.nfs_server.proofs.Limits.{reply_has_form}
use Rattle.nfs_server.proofs.Replying.{reply_len}
use Rattle.nfs_server.proofs.compound.run_compound.Goals as goal

pub returns-clause-len : goal.returns-clause-len
returns-clause-len g c =
    rw c.new.ensures
    (omega (arith, reply_len (record { status = c.answer_request-status.result.status; tag = c.args.compound.tag; results = c.answer_request-status.new.results.items }), c.head_len-head.ensures.size, c.answer_request-status.ensures.len))

pub returns-clause-fits : goal.returns-clause-fits
returns-clause-fits g c =
    rw c.new.ensures
    (omega (arith, reply_len (record { status = c.answer_request-status.result.status; tag = c.args.compound.tag; results = c.answer_request-status.new.results.items }), c.requires.limits.0, c.head_len-head.ensures.size, c.head_len-head.ensures.short, c.answer_request-status.ensures.len, c.answer_request-status.ensures.fits))

pub returns-clause-form : goal.returns-clause-form
returns-clause-form g c =
    let head = c.head_len-head.ensures.short in
    let len = c.answer_request-status.ensures.len in
    let fits = c.answer_request-status.ensures.fits in
    rw c.new.ensures
    (reply_has_form c.answer_request-status.result.status c.args.compound.tag c.answer_request-status.new.results.items (omega (arith, c.requires.limits.0)) (omega (arith, head, c.requires.limits.0, len, fits)) c.answer_request-status.ensures.form)
