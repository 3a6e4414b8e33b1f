-- GETATTR (RFC 7530, section 16.7): its argument is a bitmap of attributes, and its result is their values.
use Rattle.std.specs.Prelude.{ℕ, List}
use Rattle.nfs_forms.specs.declared.fattr.Fattr.{Fattr}
use Rattle.nfs_forms.specs.Answer.{PlainAnswer, plain_answer}
use Rattle.nfs_forms.specs.Bitmap.{bitmap}
use Rattle.nfs_forms.specs.Fattr.{fattr}
use Rattle.xdr.specs.Form.{Form}

-- struct GETATTR4args { bitmap4 attr_request; };
abbrev pub arguments : Form (List ℕ)
arguments = bitmap

-- union GETATTR4res switch (nfsstat4 status) { case NFS4_OK: GETATTR4resok resok4; default: void; };
-- struct GETATTR4resok { fattr4 obj_attributes; };
abbrev pub result : Form (PlainAnswer Fattr)
result = plain_answer fattr
