-- What a change of the clients' records needs.
use Rattle.std.specs.Prelude.{◌≡◌, ℕ, ◌<◌, ◌-◌, ◌^◌, ⊤, IsTrue, Bool, true, false, None}
use Rattle.nfs_owners.specs.declared.clients.client_change.ClientChange.{ClientChange}
use Rattle.nfs_owners.specs.declared.clients.client_change.ClientChange.TheVariants as changes
use Rattle.nfs_owners.specs.Choice.{IsNextNumber, has_number_left}
use Rattle.nfs_owners.specs.Slots.{slot_of}
use Rattle.nfs_owners.specs.Registry.{IsClientOf, Registry, confirmed_of}

-- The clients' records, and how many more confirmed and unconfirmed ones fit without taking memory.
pub record RoomyClients : Type 0 where
  pub registry : Registry
  pub confirmed_room : ℕ
  pub unconfirmed_room : ℕ

-- the change takes no memory
abbrev pub HasRoomFor : ClientChange → RoomyClients → Type 0
HasRoomFor changes.Nothing clients = ⊤
HasRoomFor (changes.Arrives r) clients = 0 < clients.unconfirmed_room
HasRoomFor (changes.Updates r) clients = 0 < clients.unconfirmed_room
HasRoomFor (changes.Confirms r) clients = 0 < clients.confirmed_room
HasRoomFor (changes.Refreshes r) clients = 0 < clients.confirmed_room
HasRoomFor (changes.Replaces r client) clients = 0 < clients.confirmed_room

-- where the change gives a number, its slot has one left; where it gives a confirm value, one is left
abbrev pub HasNumbersFor : ClientChange → Registry → Type 0
HasNumbersFor changes.Nothing registry = ⊤
HasNumbersFor (changes.Arrives r) registry =
    IsTrue (has_number_left registry (slot_of r.state.client.number))
    × (registry.last_confirm < 2 ^ 64 - 1)
HasNumbersFor (changes.Updates r) registry = registry.last_confirm < 2 ^ 64 - 1
HasNumbersFor (changes.Confirms r) registry = ⊤
HasNumbersFor (changes.Refreshes r) registry = ⊤
HasNumbersFor (changes.Replaces r client) registry = ⊤

-- The record that the change adds has the next number of a slot in which no client is live, or the clientid of the id's
-- record that it updates, confirms or refreshes; one that is replaced is the id's confirmed record.
abbrev pub FitsRecords : ClientChange → Registry → Type 0
FitsRecords changes.Nothing registry = ⊤
FitsRecords (changes.Arrives r) registry = IsNextNumber r.state.client.number registry
FitsRecords (changes.Updates r) registry = IsClientOf r.id r.state.client registry.confirmed
FitsRecords (changes.Confirms r) registry =
    (confirmed_of registry r.id ≡ None) × IsClientOf r.id r.state.client registry.unconfirmed
FitsRecords (changes.Refreshes r) registry = IsClientOf r.id r.state.client registry.confirmed
FitsRecords (changes.Replaces r client) registry =
    IsClientOf r.id client registry.confirmed
    × IsClientOf r.id r.state.client registry.unconfirmed

-- the change adds a record
abbrev pub adds_record : ClientChange → Bool
adds_record changes.Nothing = false
adds_record (changes.Arrives r) = true
adds_record (changes.Updates r) = true
adds_record (changes.Confirms r) = true
adds_record (changes.Refreshes r) = true
adds_record (changes.Replaces r client) = true
