-- What the owners that the server knows have to do with each other.
use Rattle.std.specs.Prelude.{◌≡◌, ℕ, Bool, IsFalse, List, None, if◌then◌else◌}
use Rattle.nfs_forms.specs.ClientId.{is_same_client}
use Rattle.nfs_forms.specs.declared.client_id.ClientId.{ClientId}
use Rattle.nfs_forms.specs.declared.lock_owner.LockOwner.{LockOwner}
use Rattle.nfs_forms.specs.declared.open_owner.OpenOwner.{OpenOwner}
use Rattle.nfs_owners.specs.Owner.{owner_of}
use Rattle.nfs_owners.specs.Owners.{with_confirmed, with_kept, without_owner, without_owners_of}
use Rattle.nfs_owners.specs.StateOwner.{is_same_state_owner, lock_owner, open_owner}
use Rattle.nfs_owners.specs.declared.kept.KeptSummary.{KeptSummary}
use Rattle.nfs_owners.specs.declared.owner.Owner.{Owner}
use Rattle.nfs_owners.specs.declared.state_owner.StateOwner.{StateOwner}

-- no open owner is a lock owner, whatever their clients and names
abbrev pub KindsAreApart : Type 0
KindsAreApart =
    (opener : OpenOwner) (locker : LockOwner)
    → IsFalse (is_same_state_owner (open_owner opener) (lock_owner locker))
    × IsFalse (is_same_state_owner (lock_owner locker) (open_owner opener))

-- where one owner's request is kept, or one is confirmed or removed, each other one stays as it is
abbrev pub OthersStay : Type 0
OthersStay =
    (name other : StateOwner) (owners : List Owner) → IsFalse (is_same_state_owner name other)
    → ((number : ℕ) (kept : KeptSummary) (confirmed : Bool)
    → owner_of other (with_kept name number kept confirmed owners) ≡ owner_of other owners)
    × (owner_of other (with_confirmed name owners) ≡ owner_of other owners)
    × (owner_of other (without_owner name owners) ≡ owner_of other owners)

-- where a client is removed, its owners are unknown, of both kinds, and each other one stays
abbrev pub ClientTakesItsOwners : Type 0
ClientTakesItsOwners =
    (client : ClientId) (name : StateOwner) (owners : List Owner)
    → owner_of name (without_owners_of client owners)
    ≡ (if is_same_client name.client client then None else owner_of name owners)
