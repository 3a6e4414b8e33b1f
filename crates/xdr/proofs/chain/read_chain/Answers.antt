use Rattle.std.proofs.Common.{length}
use Rattle.std.proofs.lemmas.Result.{err_from_is_err_and}
use Rattle.xdr.specs.Reading.{chain_at, chain_below}
use Rattle.xdr.proofs.ReadingChains.{goes_on, ends_here, fails_at, too_many}
use Rattle.xdr.proofs.chain.read_chain.Goals as goal

pub returns-in_err-link : goal.returns-in_err-link
unfolding chain_at
returns-in_err-link g c =
    let f = g.T.Wire.form.at in
    let most = length c.args.bytes.now in
    let p = err_from_is_err_and c.from_residual.result c.from_residual.ensures.1 in
    rw p.1 (fails_at f c.loop.values.items most c.loop.counter c.loop.rest.now p.0 (chain_below f most c.args.bytes.now) c.loop-test.true (rw p.2 c.in_err-link.ensures) c.loop.invariant)

pub returns-in_default : goal.returns-in_default
unfolding chain_at
returns-in_default g c =
    let f = g.T.Wire.form.at in
    let most = length c.args.bytes.now in
    rw c.new.ensures (ends_here f c.loop.values.items most c.loop.counter c.loop.rest.now c.in_ok-link.beyond.now (chain_below f most c.args.bytes.now) c.loop-test.true (rw c.in_default.is at c.in_ok-link.ensures) c.loop.invariant)

pub loop-preserved : goal.loop-preserved
loop-preserved g c =
    let f = g.T.Wire.form.at in
    let most = length c.args.bytes.now in
    rw c.in-Ok.ensures.items (goes_on f c.loop.values.items most c.loop.counter c.loop.rest.now c.in-Some.value c.in_ok-link.beyond.now (chain_below f most c.args.bytes.now) c.loop-test.true (rw c.in-Some.is at c.in_ok-link.ensures) c.loop.invariant)

pub returns : goal.returns
unfolding chain_at
returns g c =
    let f = g.T.Wire.form.at in
    let most = length c.args.bytes.now in
    too_many f c.loop.values.items most c.loop.counter c.loop.rest.now (chain_below f most c.args.bytes.now) c.loop-test.false c.loop.invariant
