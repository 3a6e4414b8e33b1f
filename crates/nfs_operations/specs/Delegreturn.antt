-- DELEGRETURN (RFC 7530, section 16.6): its argument is a delegation, and its result a status.
use Rattle.std.proofs.Common.{refl}
use Rattle.nfs_operations.specs.declared.delegreturn.Delegreturn.{Delegreturn}
use Rattle.nfs_forms.specs.Answer.{PlainAnswer, plain_answer}
use Rattle.nfs_forms.specs.Stateid.{stateid}
use Rattle.xdr.specs.Form.{Form, of, nothing}

-- struct DELEGRETURN4args { stateid4 deleg_stateid; };
unfoldable pub arguments : Form Delegreturn
arguments = of (λ s. record { stateid = s }) (λ a. a.stateid) (λ s. refl) (λ a. refl) stateid

-- struct DELEGRETURN4res { nfsstat4 status; };
abbrev pub result : Form (PlainAnswer (Unit {0}))
result = plain_answer nothing
