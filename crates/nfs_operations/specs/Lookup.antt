-- LOOKUP (RFC 7530, section 16.13): its argument is a name, and its result a status.
use Rattle.std.specs.Prelude.{ℕ, List}
use Rattle.nfs_forms.specs.Answer.{PlainAnswer, plain_answer}
use Rattle.xdr.specs.Form.{Form, nothing, bytes}

-- struct LOOKUP4args { component4 objname; };
abbrev pub arguments : Form (List ℕ)
arguments = bytes

-- struct LOOKUP4res { nfsstat4 status; };
abbrev pub result : Form (PlainAnswer (Unit {0}))
result = plain_answer nothing
