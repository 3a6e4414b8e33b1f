-- fattr4 (RFC 7531): a bitmap of the attributes that are given, and their values as opaque bytes.
use Rattle.std.proofs.Common.{refl}
use Rattle.nfs_forms.specs.declared.fattr.Fattr.{Fattr}
use Rattle.nfs_forms.specs.Bitmap.{bitmap}
use Rattle.xdr.specs.Form.{Form, ◌and◌, of, bytes}

-- struct fattr4 { bitmap4 attrmask; attrlist4 attr_vals; };
unfoldable pub fattr : Form Fattr
fattr =
    of (λ p. record { mask = p.0; values = p.1 }) (λ f. (f.mask, f.values)) (λ p. refl) (λ f. refl)
    (bitmap and bytes)
