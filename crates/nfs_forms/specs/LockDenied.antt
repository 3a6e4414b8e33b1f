-- LOCK4denied (RFC 7530, section 16.10; RFC 7531): a lock of another owner, for which one is denied.
use Rattle.std.proofs.Common.{refl}
use Rattle.nfs_forms.specs.declared.lock_denied.LockDenied.{LockDenied}
use Rattle.nfs_forms.specs.LockOwner.{lock_owner}
use Rattle.nfs_forms.specs.LockType.{lock_type}
use Rattle.xdr.specs.Form.{Form, ◌and◌, of, u64}

-- struct LOCK4denied { offset4 offset; length4 length; nfs_lock_type4 locktype; lock_owner4 owner; };
unfoldable pub lock_denied : Form LockDenied
lock_denied =
    of (λ p. record { offset = p.0; length = p.1.0; locktype = p.1.1.0; owner = p.1.1.1 })
    (λ d. (d.offset, (d.length, (d.locktype, d.owner)))) (λ p. refl) (λ d. refl)
    (u64 and u64 and lock_type and lock_owner)
