-- How owners are kept: in rows, in the order in which they were recorded, found by a keyed hash of their names.
use Rattle.std.specs.Prelude.{◌≡◌, ℕ, ◌+◌, ◌*◌, ◌^◌, true, false, List, Option, Some, None, if◌then◌else◌, map}
use Rattle.std.specs.List.{AllByRecursion}
use Rattle.std.specs.declared.hash.RandomState.{RandomState}
use Rattle.nfs_rows.specs.NameHash.{hash_of}
use Rattle.nfs_rows.specs.Rows.{Row, is_numbered}
use Rattle.nfs_forms.specs.declared.client_id.ClientId.{ClientId}
use Rattle.nfs_owners.specs.Owner.{has_name, is_known}
use Rattle.nfs_owners.specs.declared.owner.Owner.{Owner}
use Rattle.nfs_owners.specs.declared.owner.OwnerState.{OwnerState}
use Rattle.nfs_owners.specs.declared.state_owner.OwnerKind.{OwnerKind}
use Rattle.nfs_owners.specs.declared.state_owner.OwnerKind.TheVariants as kinds
use Rattle.nfs_owners.specs.declared.state_owner.StateOwner.{StateOwner}

-- a client in one number
abbrev pub space_of : ClientId → ℕ
space_of client = client.epoch * 2 ^ 32 + client.number

abbrev pub kind_number : OwnerKind → ℕ
kind_number kinds.Open = 0
kind_number kinds.Lock = 1

-- the keyed hash of an owner's name
abbrev pub name_hash : RandomState → StateOwner → ℕ
name_hash names name = hash_of names (space_of name.client) (kind_number name.kind) name.name

abbrev pub owners_in : List (Row Owner) → List Owner
owners_in rows = map (λ r. r.value) rows

-- The rows of owners, how many more can come without taking memory, how many closed states there is room for, and the
-- seed of the hashes of their names.
pub record RoomyOwnerRows : Type 0 where
  pub rows : List (Row Owner)
  pub room : ℕ
  pub states : ℕ
  pub names : RandomState

-- the row says of its owner what the owner is found by
pub record IsFiled (names : RandomState) (r : Row Owner) : Type 0 where
  pub numbered : r.number ≡ r.value.state.recorded
  pub hashed : r.hash ≡ name_hash names r.value.name
  pub of_client : r.client ≡ r.value.name.client.number

-- the owner with this name is in the row with the number, and in no other, or is unknown
abbrev pub IsRowOf : StateOwner → List (Row Owner) → Option ℕ → Type 0
IsRowOf name rows None = is_known name (owners_in rows) ≡ false
IsRowOf name rows (Some number) =
    (is_known name (owners_in rows) ≡ true)
    × AllByRecursion (λ r. is_numbered number r ≡ has_name name r.value) rows

-- the owner in the row with the number is changed
abbrev pub with_state_at : (OwnerState → OwnerState) → ℕ → List (Row Owner) → List (Row Owner)
with_state_at change number rows =
    map
    (λ r. if is_numbered number r
    then record r { value = record r.value { state = change r.value.state } } else r)
    rows

abbrev pub confirmed : OwnerState → OwnerState
confirmed s = record s { confirmed = true }
