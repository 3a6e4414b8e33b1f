-- SAVEFH (RFC 7530, section 16.30): it has no arguments, and its result is a status.
use Rattle.nfs_forms.specs.Answer.{PlainAnswer, plain_answer}
use Rattle.xdr.specs.Form.{Form, nothing}

-- void
abbrev pub arguments : Form (Unit {0})
arguments = nothing

-- struct SAVEFH4res { nfsstat4 status; };
abbrev pub result : Form (PlainAnswer (Unit {0}))
result = plain_answer nothing
