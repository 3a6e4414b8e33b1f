use Rattle.std.proofs.Common.{ℕ, List, subst}
use Rattle.std.proofs.lemmas.Result.{err_from_is_err_and}
use Rattle.nfs_server.specs.Device.{IsCut, device_of_sink}
use Rattle.nfs_server.specs.laws.Writing.{cut_before}
use Rattle.nfs_program.proofs.pieces.put.Goals as goal

pub returns-in_err-write_to-clause-put : goal.returns-in_err-write_to-clause-put
returns-in_err-write_to-clause-put g c =
    let device = device_of_sink g.J.Sink.takes g.J.Sink.fails in
    let p = err_from_is_err_and c.from_residual.result c.from_residual.ensures.1 in
    let cut = subst (λ (bytes : List ℕ). IsCut device c.args.file.now bytes c.write_to.new.sink) c.as_slice.ensures.value c.in_err-write_to.ensures.err in
    rw p.1 (cut_before device c.args.file.now c.write_to.new.sink c.args.buffer.now.items (g.T.Wire.form.encoding c.args.value.now) cut)
