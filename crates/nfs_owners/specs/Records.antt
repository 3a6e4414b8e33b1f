-- How the clients' records of one kind are kept.
use Rattle.std.specs.Prelude.{◌≡◌, ℕ, ◌+◌, ◌^◌, ◌<◌, ◌≤◌, Bool, List, find, map, Option, option_map, nat_eq}
use Rattle.std.specs.List.{AllByRecursion, IsDistinct}
use Rattle.std.specs.declared.random_state.RandomState.{RandomState}
use Rattle.indexmap.specs.IndexMap.{IndexMap, get, spare}
use Rattle.nfs_rows.specs.Rows.{RoomyRows, Row, StandInOrder}
use Rattle.nfs_rows.specs.NameHash.{hash_of}
use Rattle.nfs_owners.specs.Registry.{have_same_id, is_of_client}
use Rattle.nfs_owners.specs.declared.client_record.ClientRecord.{ClientRecord}

-- The records of one kind in the order in which they were added, how many more fit without taking memory, and the seed
-- of the hashes of their ids.
pub record RoomyRecords : Type 0 where
  pub records : List ClientRecord
  pub room : ℕ
  pub ids : RandomState

-- the records of these rows
abbrev pub records_in : List (Row ClientRecord) → List ClientRecord
records_in rows = map (λ r. r.value) rows

-- both records are of one client
abbrev pub have_same_client : ClientRecord → ClientRecord → Bool
have_same_client r s = is_of_client s.state.client.number r

-- the row's hash is that of its record's id
abbrev pub IsHashed : RandomState → Row ClientRecord → Type 0
IsHashed ids r = r.hash ≡ hash_of ids 0 0 r.value.id

-- the number of the row with the record of the client
abbrev pub row_of_client : ℕ → List (Row ClientRecord) → Option ℕ
row_of_client number rows = option_map (λ r. r.number) (find (λ r. is_of_client number r.value) rows)

-- No two records have one id, nor one client; each row has its record's hash, and is found by its client's number; and
-- so many more rows can be promised.
pub record AreRows {S : Type 0} (ids : RandomState) (rows : RoomyRows ClientRecord)
    (by_client : IndexMap ℕ ℕ S) (newest room : ℕ) : Type 0 where
  pub names : IsDistinct have_same_id (records_in rows.rows)
  pub clients : IsDistinct have_same_client (records_in rows.rows)
  pub hashes : AllByRecursion (IsHashed ids) rows.rows
  pub order : StandInOrder rows.rows
  pub before : AllByRecursion (λ r. r.number ≤ newest) rows.rows
  pub index : (number : ℕ) → get nat_eq by_client number ≡ row_of_client number rows.rows
  pub in_rows : room ≤ rows.room
  pub in_index : room ≤ spare by_client
  pub in_numbers : newest + room < 2 ^ 64
