use Rattle.xdr.specs.Writing.{written_link}
use Rattle.xdr.proofs.WritingLists.{fails_at}
use Rattle.xdr.proofs.chain.write_links.Goals as goal

pub returns-in-Err : goal.returns-in-Err
returns-in-Err g c =
    let i = c.loop-value.value-index in
    fails_at (written_link g.T.Wire.form.encoding) g.T.Wire.form.Fits c.args.out.now c.loop-value.out c.write_link.new.out c.truncate.new.self c.args.values.now i c.value-item.result c.in-Err.error
    c.loop-value-test.true c.value-item.is c.loop-value.invariant.0 c.loop-value.invariant.1 (rw c.len-start.ensures at c.truncate.ensures.items) c.truncate.ensures.capacity c.in-Err.ensures
