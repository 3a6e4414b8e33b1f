-- PUTFH (RFC 7530, section 16.20): its argument is a filehandle, and its result a status.
use Rattle.std.specs.Prelude.{ℕ, List}
use Rattle.nfs_forms.specs.Answer.{PlainAnswer, plain_answer}
use Rattle.nfs_forms.specs.FileHandle.{file_handle}
use Rattle.xdr.specs.Form.{Form, nothing}

-- struct PUTFH4args { nfs_fh4 object; };
abbrev pub arguments : Form (List ℕ)
arguments = file_handle

-- struct PUTFH4res { nfsstat4 status; };
abbrev pub result : Form (PlainAnswer (Unit {0}))
result = plain_answer nothing
