-- How the opens of a file are kept: each in a row that has its number, the hash of its owner, and its client.
use Rattle.std.specs.Prelude.{◌≡◌, ℕ, ◌+◌, ◌*◌, ◌^◌, ◌<◌, ◌≤◌, Bool, ◌||◌, false, if◌then◌else◌, List, map}
use Rattle.std.specs.List.{AllByRecursion}
use Rattle.std.specs.declared.hash.RandomState.{RandomState}
use Rattle.nfs_forms.specs.OpenOwner.{is_same_owner}
use Rattle.nfs_forms.specs.declared.client_id.ClientId.{ClientId}
use Rattle.nfs_forms.specs.declared.open_owner.OpenOwner.{OpenOwner}
use Rattle.nfs_rows.specs.Rows.{RoomyRows, Row, StandSo, is_numbered}
use Rattle.nfs_rows.specs.NameHash.{hash_of}
use Rattle.nfs_share.specs.Opens.{share_of}
use Rattle.nfs_share.specs.ShareCounts.{counts_of}
use Rattle.nfs_share.specs.Tally.{IsTally, Mark, mark_of, room_of}
use Rattle.nfs_share.specs.declared.open_state.OpenState.{OpenState}
use Rattle.nfs_share.specs.declared.share.Share.{Share}
use Rattle.nfs_share.specs.declared.share_counts.ShareCounts.{ShareCounts}
use Rattle.nfs_share.specs.declared.tally.Tally.{Tally}

-- the opens of a file, and how many more can come without taking memory
pub record RoomyOpens : Type 0 where
  pub opens : List OpenState
  pub room : ℕ

-- the epoch and the number of a client in one
abbrev pub space_of : ClientId → ℕ
space_of client = client.epoch * 2 ^ 32 + client.number

-- the keyed hash of an owner
abbrev pub hash_of_owner : RandomState → OpenOwner → ℕ
hash_of_owner names owner = hash_of names (space_of owner.client) 0 owner.name

-- the opens in their rows
abbrev pub opens_kept : List (Row OpenState) → List OpenState
opens_kept rows = map (λ r. r.value) rows

-- the row says of its open what the open is found by
pub record IsOpen (names : RandomState) (r : Row OpenState) : Type 0 where
  pub numbered : r.number ≡ r.value.number
  pub hashed : r.hash ≡ hash_of_owner names r.value.owner
  pub of_client : r.client ≡ r.value.owner.client.number

-- the first has the lower number, and another owner
abbrev pub IsBefore : OpenState → OpenState → Type 0
IsBefore a b = (a.number < b.number) × (is_same_owner a.owner b.owner ≡ false)

-- the rows say what they have, and no owner has two opens
pub record AreKept (names : RandomState) (rows : List (Row OpenState)) : Type 0 where
  pub each : AllByRecursion (IsOpen names) rows
  pub apart : StandSo IsBefore (opens_kept rows)

-- the rows, with a change of the open in the one with the number
abbrev pub with_change : ℕ → (OpenState → OpenState) → List (Row OpenState) → List (Row OpenState)
with_change number change rows =
    map (λ r. if is_numbered number r then record r { value = change r.value } else r) rows

-- a read delegation would be in the way of an open with this share
abbrev pub bars_reading : Share → Bool
bars_reading share = share.access.write || share.deny.read

-- whose the open is, and whether a read delegation would be in its way
abbrev pub mark_in : OpenState → Mark
mark_in o = mark_of o.owner.client (bars_reading (share_of o))

-- what is kept of the opens is so
pub record IsTable (names : RandomState) (rows : RoomyRows OpenState) (counts : ShareCounts)
    (of_client : Tally) (room : ℕ) : Type 0 where
  pub kept : AreKept names rows.rows
  pub counts_are : counts ≡ counts_of (map share_of (opens_kept rows.rows))
  pub tally : IsTally of_client (map mark_in (opens_kept rows.rows))
  pub in_rows : room ≤ rows.room
  pub in_tally : room ≤ room_of of_client
