-- change_info4 (RFC 7530, section 2.2.6; RFC 7531): a directory's change attribute before and after an operation.
use Rattle.std.proofs.Common.{refl}
use Rattle.nfs_forms.specs.declared.change_info.ChangeInfo.{ChangeInfo}
use Rattle.xdr.specs.Form.{Form, ◌and◌, of, flag, u64}

-- struct change_info4 { bool atomic; changeid4 before; changeid4 after; };
unfoldable pub change_info : Form ChangeInfo
change_info = of (λ p. record { atomic = p.0; before = p.1.0; after = p.1.1 })
    (λ c. (c.atomic, (c.before, c.after)))
    (λ p. refl) (λ c. refl) (flag and u64 and u64)
