-- nfs_fh4 (RFC 7531): a filehandle.
use Rattle.std.specs.Prelude.{ℕ, ◌<◌, List, length, Ok, Err}
use Rattle.nfs_forms.specs.declared.file_handle.TheConstants.{FILE_HANDLE_LIMIT}
use Rattle.xdr.specs.Form.{Form, opaque}
use Rattle.xdr.specs.Reading.{Read}

-- typedef opaque nfs_fh4<NFS4_FHSIZE>;
abbrev pub file_handle : Form (List ℕ)
file_handle = opaque FILE_HANDLE_LIMIT

-- what is read is a handle of more than 16 bytes
abbrev pub IsLong : Read (List ℕ) → Type 0
IsLong (Ok read) = 16 < length read.0
IsLong (Err error) = ⊥
