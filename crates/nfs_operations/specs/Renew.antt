-- RENEW (RFC 7530, section 16.28): its argument is a clientid, and its result a status.
use Rattle.std.proofs.Common.{refl}
use Rattle.nfs_operations.specs.declared.renew.Renew.{Renew}
use Rattle.nfs_forms.specs.Answer.{PlainAnswer, plain_answer}
use Rattle.nfs_forms.specs.ClientId.{client_id}
use Rattle.xdr.specs.Form.{Form, of, nothing}

-- struct RENEW4args { clientid4 clientid; };
unfoldable pub arguments : Form Renew
arguments = of (λ c. record { client = c }) (λ a. a.client) (λ c. refl) (λ a. refl) client_id

-- struct RENEW4res { nfsstat4 status; };
abbrev pub result : Form (PlainAnswer (Unit {0}))
result = plain_answer nothing
