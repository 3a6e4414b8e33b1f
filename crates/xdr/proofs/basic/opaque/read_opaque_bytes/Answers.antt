-- The reading function on lists never reports that it is out of memory.
use Rattle.std.proofs.lemmas.Result.{err_from_is_err_and}
use Rattle.xdr.specs.laws.Reads.{opaque_tells}
use Rattle.xdr.proofs.basic.opaque.read_opaque_bytes.Goals as goal

pub returns-in_err-value-clause-memory : goal.returns-in_err-value-clause-memory
returns-in_err-value-clause-memory g c memory =
    let p = err_from_is_err_and c.from_residual.result c.from_residual.ensures.1 in
    absurd (opaque_tells g.row.LIMIT c.args.bytes.now c.from_residual.result p.0 p.1 (rw p.2 c.in_err-value.ensures.reads) memory)
