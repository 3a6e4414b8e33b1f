-- The reading function on lists never reports that it is out of memory.
use Rattle.std.proofs.lemmas.Result.{err_from_is_err_and}
use Rattle.xdr.specs.laws.Reads.{opaque_tells}
use Rattle.nfs_forms.specs.declared.file_handle.TheConstants.{FILE_HANDLE_LIMIT}
use Rattle.nfs_forms.proofs.file_handle.FileHandleWire.read.Goals as goal

pub returns-in_err-handle-clause-few : goal.returns-in_err-handle-clause-few
returns-in_err-handle-clause-few c memory =
    let p = err_from_is_err_and c.from_residual.result c.from_residual.ensures.1 in
    absurd (opaque_tells FILE_HANDLE_LIMIT c.args.bytes.now c.from_residual.result p.0 p.1 (rw p.2 c.in_err-handle.ensures.reads) memory)
