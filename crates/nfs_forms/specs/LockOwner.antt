-- lock_owner4 (RFC 7530, section 9.1.5; RFC 7531): a client, and the name of one of those who lock bytes of files at
-- it.
use Rattle.std.specs.Prelude.{Bool, ◌&&◌}
use Rattle.std.specs.Str.{bytes_eq}
use Rattle.std.proofs.Common.{refl}
use Rattle.nfs_forms.specs.ClientId.{client_id, is_same_client}
use Rattle.nfs_forms.specs.declared.lock_owner.LockOwner.{LockOwner}
use Rattle.nfs_forms.specs.declared.open_owner.TheConstants.{OWNER_NAME_LIMIT}
use Rattle.xdr.specs.Form.{Form, ◌and◌, of, opaque}

-- struct lock_owner4 { clientid4 clientid; opaque owner<NFS4_OPAQUE_LIMIT>; };
unfoldable pub lock_owner : Form LockOwner
lock_owner =
    of (λ p. record { client = p.0; name = p.1 }) (λ o. (o.client, o.name)) (λ p. refl) (λ o. refl)
    (client_id and opaque OWNER_NAME_LIMIT)

-- the two owners are the same: one name at one client
abbrev pub is_same_lock_owner : LockOwner → LockOwner → Bool
is_same_lock_owner a b = is_same_client a.client b.client && bytes_eq a.name b.name
