-- What a call changes in the clients' records.
use Rattle.std.specs.Prelude.{ℕ, ◌+◌, [], ◌∷◌, ◌++◌, Option, Some, None, slice_set}
use Rattle.nfs_owners.specs.declared.client_record.ClientRecord.{ClientRecord}
use Rattle.nfs_owners.specs.declared.clients.client_change.ClientChange.{ClientChange}
use Rattle.nfs_owners.specs.declared.clients.client_change.ClientChange.TheVariants as changes
use Rattle.nfs_owners.specs.Choice.{without_unconfirmed_of}
use Rattle.nfs_owners.specs.Registry.{Registry, given_of, without_id}
use Rattle.nfs_owners.specs.Slots.{slot_of}

-- the unconfirmed record is added, and an earlier unconfirmed record with the same id is removed
abbrev pub with_unconfirmed : ClientRecord → Registry → Registry
with_unconfirmed r old = record old { unconfirmed = without_id r.id old.unconfirmed ++ r ∷ [] }

-- the confirmed record is added, and all other records with the same id are removed
abbrev pub with_confirmed : ClientRecord → Registry → Registry
with_confirmed r old = record old {
  confirmed = without_id r.id old.confirmed ++ r ∷ [];
  unconfirmed = without_id r.id old.unconfirmed;
}

-- A newcomer's record is added, one more number of its slot and one more confirm value were given, and earlier
-- unconfirmed records are removed: that with the same id, and that of the same slot. So one change may remove two.
abbrev pub with_newcomer : ClientRecord → Registry → Registry
with_newcomer r old =
    let slot = slot_of r.state.client.number in
    record (with_unconfirmed r (without_unconfirmed_of slot old)) {
      given = slice_set old.given slot (given_of old slot + 1);
      last_confirm = old.last_confirm + 1;
    }

-- the records after the change, and the numbers and confirm values that were given out
abbrev pub with_change : ClientChange → Registry → Registry
with_change changes.Nothing old = old
with_change (changes.Arrives r) old = with_newcomer r old
with_change (changes.Updates r) old =
    record (with_unconfirmed r old) { last_confirm = old.last_confirm + 1 }
with_change (changes.Confirms r) old = with_confirmed r old
with_change (changes.Refreshes r) old = with_confirmed r old
with_change (changes.Replaces r client) old = with_confirmed r old

-- the number that the change gives, if it gives one
abbrev pub given_by : ClientChange → Option ℕ
given_by changes.Nothing = None
given_by (changes.Arrives r) = Some r.state.client.number
given_by (changes.Updates r) = None
given_by (changes.Confirms r) = None
given_by (changes.Refreshes r) = None
given_by (changes.Replaces r client) = None
