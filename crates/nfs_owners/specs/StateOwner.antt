-- Open owners and lock owners, which have a name space each (RFC 7530, section 9.1.5).
use Rattle.std.specs.Prelude.{Bool, true, false, ◌&&◌}
use Rattle.std.specs.Str.{bytes_eq}
use Rattle.nfs_forms.specs.ClientId.{is_same_client}
use Rattle.nfs_forms.specs.declared.lock_owner.LockOwner.{LockOwner}
use Rattle.nfs_forms.specs.declared.open_owner.OpenOwner.{OpenOwner}
use Rattle.nfs_owners.specs.declared.owner_ref.OwnerRef.{OwnerRef}
use Rattle.nfs_owners.specs.declared.state_owner.OwnerKind.{OwnerKind}
use Rattle.nfs_owners.specs.declared.state_owner.OwnerKind.TheVariants as kinds
use Rattle.nfs_owners.specs.declared.state_owner.StateOwner.{StateOwner}

abbrev pub open_owner : OpenOwner → StateOwner
open_owner o = record { kind = kinds.Open; client = o.client; name = o.name }

abbrev pub lock_owner : LockOwner → StateOwner
lock_owner o = record { kind = kinds.Lock; client = o.client; name = o.name }

-- the open owner of this client and name
abbrev pub as_open_owner : StateOwner → OpenOwner
as_open_owner o = record { client = o.client; name = o.name }

abbrev pub is_same_kind : OwnerKind → OwnerKind → Bool
is_same_kind kinds.Open kinds.Open = true
is_same_kind kinds.Open kinds.Lock = false
is_same_kind kinds.Lock kinds.Open = false
is_same_kind kinds.Lock kinds.Lock = true

-- the two owners are the same: of one kind, and one name at one client
abbrev pub is_same_state_owner : StateOwner → StateOwner → Bool
is_same_state_owner a b =
    is_same_kind a.kind b.kind && is_same_client a.client b.client && bytes_eq a.name b.name

-- the owner that is lent
abbrev pub owner_seen : OwnerRef → StateOwner
owner_seen o = record { kind = o.kind; client = o.client; name = o.name.now }
