-- The clients' records (RFC 7530, section 16.33.5).
use Rattle.std.specs.Prelude.{◌≡◌, ℕ, ◌+◌, ◌<◌, ◌≤◌, nat_lt, Bool, ◌&&◌, ◌==◌, not, IsFalse, IsTrue, List, [], filter, find, map, Option, Some, option_map, if◌then◌else◌, length, replicate, slice_index}
use Rattle.std.specs.List.{AllByRecursion, IsDistinct, list_any}
use Rattle.std.specs.Str.{bytes_eq}
use Rattle.nfs_forms.specs.ClientId.{is_same_client}
use Rattle.nfs_forms.specs.declared.client_id.ClientId.{ClientId}
use Rattle.nfs_operations.specs.declared.setclientid_confirm.SetclientidConfirm.{SetclientidConfirm}
use Rattle.nfs_owners.specs.declared.client_record.ClientRecord.{ClientRecord}
use Rattle.nfs_owners.specs.declared.client_record.ClientState.{ClientState}
use Rattle.nfs_owners.specs.declared.client_record.PathMark.{PathMark}
use Rattle.nfs_owners.specs.declared.client_ref.ClientRef.{ClientRef}
use Rattle.nfs_owners.specs.declared.slots.TheConstants.{SLOTS}
use Rattle.nfs_owners.specs.Slots.{generation_of, slot_of}

-- The confirmed and the unconfirmed records, each in the order in which they were added; how many numbers of each slot
-- were given out; and the last confirm value that was given out, 0 before the first.
pub record Registry : Type 0 where
  pub confirmed : List ClientRecord
  pub unconfirmed : List ClientRecord
  pub given : List ℕ
  pub last_confirm : ℕ

-- a registry without clients
abbrev pub no_clients : Registry
no_clients = record {
  confirmed = [];
  unconfirmed = [];
  given = replicate SLOTS 0;
  last_confirm = 0;
}

-- the record that is lent
abbrev pub client_seen : ClientRef → ClientRecord
client_seen r = record { id = r.id.now; state = r.state.now }

-- what a record has besides the id, if there is a record
abbrev pub record_state : Option ClientRecord → Option ClientState
record_state found = option_map (λ r. r.state) found

-- the record has this id
abbrev pub is_of : List ℕ → ClientRecord → Bool
is_of id r = bytes_eq r.id id

-- the confirmed record with this id, if there is one
abbrev pub confirmed_of : Registry → List ℕ → Option ClientRecord
confirmed_of registry id = find (is_of id) registry.confirmed

-- the records without that of this id
abbrev pub without_id : List ℕ → List ClientRecord → List ClientRecord
without_id id records = filter (λ r. not (is_of id r)) records

-- the record is one of the client with this number
abbrev pub is_of_client : ℕ → ClientRecord → Bool
is_of_client number r = r.state.client.number == number

-- the confirmed record with this clientid, if there is one
abbrev pub record_of : ClientId → Registry → Option ClientRecord
record_of client registry = find (λ r. is_same_client r.state.client client) registry.confirmed

-- the client with this number has a confirmed record
abbrev pub is_live : ℕ → Registry → Bool
is_live number registry = list_any (is_of_client number) registry.confirmed

-- a client can have this number: no number of slot 0 is given
abbrev pub IsClientNumber : ℕ → Type 0
IsClientNumber number = 0 < slot_of number

-- how many numbers of the slot were given
abbrev pub given_of : Registry → ℕ → ℕ
given_of registry slot = slice_index registry.given slot

-- a client was given this number
abbrev pub was_given : ℕ → Registry → Bool
was_given number registry =
    nat_lt 0 (slot_of number) && nat_lt (generation_of number) (given_of registry (slot_of number))

-- of the numbers of its slot that were given, this one was the last
abbrev pub is_last_given : ℕ → Registry → Bool
is_last_given number registry =
    nat_lt 0 (slot_of number) && (generation_of number + 1 == given_of registry (slot_of number))

-- the records without those of the client with this number
abbrev pub without_number : ℕ → List ClientRecord → List ClientRecord
without_number number records = filter (λ r. not (is_of_client number r)) records

-- all records of the client with this number are removed, also an unconfirmed one
abbrev pub without_client : ℕ → Registry → Registry
without_client number registry = record registry {
  confirmed = without_number number registry.confirmed;
  unconfirmed = without_number number registry.unconfirmed;
}

-- the record with this mark for its path, if it is one of the client with this number
abbrev pub after_mark : ℕ → PathMark → ClientRecord → ClientRecord
after_mark number path r =
    if is_of_client number r then record r { state = record r.state { path = path } } else r

-- the confirmed record of the client with this number has this mark for its path
abbrev pub with_mark : ℕ → PathMark → Registry → Registry
with_mark number path registry = record registry {
  confirmed = map (after_mark number path) registry.confirmed;
}

-- the arguments of SETCLIENTID_CONFIRM name the record, by its clientid and its confirm value
abbrev pub is_named_by : SetclientidConfirm → ClientRecord → Bool
is_named_by args r = is_same_client r.state.client args.client && (r.state.confirm == args.confirm)

-- the unconfirmed record that the arguments of SETCLIENTID_CONFIRM name, if there is one
abbrev pub unconfirmed_named_by : SetclientidConfirm → Registry → Option ClientRecord
unconfirmed_named_by args registry = find (is_named_by args) registry.unconfirmed

-- the confirmed record that the arguments of SETCLIENTID_CONFIRM name, if there is one
abbrev pub confirmed_named_by : SetclientidConfirm → Registry → Option ClientRecord
confirmed_named_by args registry = find (is_named_by args) registry.confirmed

-- both records have one id
abbrev pub have_same_id : ClientRecord → ClientRecord → Bool
have_same_id r s = bytes_eq r.id s.id

-- the record has this client number and another id
abbrev pub takes_number : List ℕ → ℕ → ClientRecord → Bool
takes_number id number r = is_of_client number r && not (is_of id r)

-- the client number is the last that was given of its slot, and no record with another id has it
abbrev pub IsNumberOf : List ℕ → ℕ → Registry → Type 0
IsNumberOf id number registry =
    IsTrue (is_last_given number registry)
    × IsFalse (list_any (takes_number id number) registry.confirmed)
    × IsFalse (list_any (takes_number id number) registry.unconfirmed)

-- the record's client number is that of its id
abbrev pub HasOwnNumber : Registry → ClientRecord → Type 0
HasOwnNumber registry r = IsNumberOf r.id r.state.client.number registry

-- of no slot were more numbers given than confirm values, as each number comes with one
abbrev pub HaveValues : Registry → Type 0
HaveValues registry = AllByRecursion (λ count. count ≤ registry.last_confirm) registry.given

-- The records that clients can have: no two confirmed ones have one id, nor two unconfirmed ones, and each client
-- number is the last that was given of its slot, to one id. There is a count for each slot, and none is above the last
-- confirm value.
pub record AreRecords (registry : Registry) : Type 0 where
  pub slots : length registry.given ≡ SLOTS
  pub values : HaveValues registry
  pub confirmed : IsDistinct have_same_id registry.confirmed
  pub unconfirmed : IsDistinct have_same_id registry.unconfirmed
  pub confirmed_numbers : AllByRecursion (HasOwnNumber registry) registry.confirmed
  pub unconfirmed_numbers : AllByRecursion (HasOwnNumber registry) registry.unconfirmed

-- the record with this id, among these, is of the client with this clientid
abbrev pub IsClientOf : List ℕ → ClientId → List ClientRecord → Type 0
IsClientOf id client records = option_map (λ r. r.state.client) (find (is_of id) records) ≡ Some client
