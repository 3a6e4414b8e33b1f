-- verifier4 (RFC 7531): eight bytes.
use Rattle.std.proofs.Common.{refl}
use Rattle.nfs_forms.specs.declared.verifier.Verifier.{Verifier}
use Rattle.xdr.specs.Form.{Form, of, fixed_opaque}

-- typedef opaque verifier4[NFS4_VERIFIER_SIZE];
unfoldable pub verifier : Form Verifier
verifier = of (λ b. record { 0 = b }) (λ v. v.0) (λ b. refl) (λ v. refl) (fixed_opaque 8)
