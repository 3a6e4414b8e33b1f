use Rattle.std.proofs.lemmas.Result.{err_from_is_err_and}
use Rattle.xdr.specs.Reading.{each_at}
use Rattle.xdr.proofs.ReadingLists.{goes_on, fails_at, all_read}
use Rattle.xdr.proofs.many.read_each_of_few.Goals as goal

pub returns-in_err-value : goal.returns-in_err-value
returns-in_err-value g c =
    let f = g.T.Wire.form.at in
    let p = err_from_is_err_and c.from_residual.result c.from_residual.ensures.1 in
    rw p.1 (fails_at f c.loop.values.items c.args.count c.loop.counter c.loop.rest.now p.0 (each_at f c.args.count c.args.bytes.now) c.loop-test.true (rw p.2 c.in_err-value.ensures) c.loop.invariant)

pub loop-preserved : goal.loop-preserved
loop-preserved g c =
    let f = g.T.Wire.form.at in
    rw c.in-Ok.ensures.ok (goes_on f c.loop.values.items c.args.count c.loop.counter c.loop.rest.now c.in_ok-value.value c.in_ok-value.beyond.now (each_at f c.args.count c.args.bytes.now) c.loop-test.true c.in_ok-value.ensures c.loop.invariant)

pub returns : goal.returns
returns g c =
    let f = g.T.Wire.form.at in
    (all_read f c.loop.values.items c.args.count c.loop.counter c.loop.rest.now (each_at f c.args.count c.args.bytes.now) c.loop-test.false c.loop.invariant)
