use Rattle.std.proofs.Common.{◌≡◌, ◌∙◌}
use Rattle.nfs_journal.proofs.ExactForms.{unlike, unread, unwritten}
use Rattle.nfs_journal.proofs.exact.read_exact.Goals as goal

pub returns-in-Err : goal.returns-in-Err
returns-in-Err g c = unread g.T.Wire.form c.args.bytes.now c.in-Err.error c.in-Err.ensures

pub returns-in-Err-write : goal.returns-in-Err-write
returns-in-Err-write g c =
    unwritten g.T.Wire.form c.args.bytes.now c.in-Ok.read.0 c.in-Ok.read.1.now c.in-Err-write.error c.in-Ok.ensures c.in-Err-write.ensures.2 c.in-Err-write.ensures.4

pub returns-else-eq : goal.returns-else-eq
returns-else-eq g c =
    let written : c.write.new.out.items ≡ g.T.Wire.form.encoding c.in-Ok.read.0 = rw c.in-Ok-with_capacity.ensures.items at c.in-Ok-write.ensures.0.0 in
    unlike g.T.Wire.form c.args.bytes.now c.in-Ok.read.0 c.in-Ok.read.1.now c.as_slice.result.now c.in-Ok.ensures (c.as_slice.ensures.value ∙ written) c.if-eq.ensures
