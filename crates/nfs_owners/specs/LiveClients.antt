-- Which clients are live, which come next, of all or of those whose path isn't known yet, and which one a confirmation
-- ends (RFC 7530, sections 9.1.1, 10.2 and 16.34.5).
use Rattle.std.specs.Prelude.{◌≡◌, ℕ, ◌<◌, ◌≤◌, Bool, true, false, ◌&&◌, ◌||◌, ◌==◌, not, IsTrue, List, filter, find, Option, Some, None, option_and_then, if◌then◌else◌}
use Rattle.std.specs.List.{list_any}
use Rattle.nfs_owners.specs.Registry.{Registry, confirmed_of, is_live, is_of_client, record_of, record_state, was_given}
use Rattle.nfs_owners.specs.declared.client_record.ClientRecord.{ClientRecord}
use Rattle.nfs_owners.specs.declared.client_record.ClientState.{ClientState}
use Rattle.nfs_owners.specs.declared.client_record.PathMark.{PathMark}
use Rattle.nfs_owners.specs.declared.client_record.PathMark.TheVariants as marks

-- the least client number above this one that one of the records has, or that none has one
abbrev pub IsNextAmong : ℕ → List ClientRecord → Option ℕ → Type 0
IsNextAmong after records None =
    (number : ℕ) → IsTrue (list_any (is_of_client number) records) → number ≤ after
IsNextAmong after records (Some next) =
    IsTrue (list_any (is_of_client next) records)
    × (after < next)
    × ((number : ℕ) → IsTrue (list_any (is_of_client number) records) → after < number
    → next ≤ number)

-- the least number above this one that a live client has, or that none has one
abbrev pub IsNextLive : ℕ → Registry → Option ℕ → Type 0
IsNextLive after registry next = IsNextAmong after registry.confirmed next

-- nothing is known of the path
abbrev pub is_unknown : PathMark → Bool
is_unknown marks.Unknown = true
is_unknown marks.Up = false
is_unknown marks.Down = false

-- the record is of a client of whose path nothing is known
abbrev pub has_unknown_path : ClientRecord → Bool
has_unknown_path r = is_unknown r.state.path

-- Of the live clients of whose paths nothing is known, the one with the least number above this one, by what its
-- confirmed record has; or that there is none.
abbrev pub IsNextUnknown : ℕ → Registry → Option ClientState → Type 0
IsNextUnknown after registry None =
    IsNextAmong after (filter has_unknown_path registry.confirmed) None
IsNextUnknown after registry (Some state) =
    IsNextAmong after (filter has_unknown_path registry.confirmed) (Some state.client.number)
    × (record_state (record_of state.client registry) ≡ Some state)
    × (state.path ≡ marks.Unknown)

-- the unconfirmed record of the client with this number, if there is one
abbrev pub unconfirmed_of_client : ℕ → Registry → Option ClientRecord
unconfirmed_of_client number registry = find (is_of_client number) registry.unconfirmed

-- the number of the record's client, unless it is this one
abbrev pub other_number : ℕ → ClientRecord → Option ℕ
other_number number r =
    if r.state.client.number == number then None else Some r.state.client.number

-- The number of the live client that the client with this number replaces once it is confirmed: another one, of the id
-- that this number's unconfirmed record has.
abbrev pub replaced_by : ℕ → Registry → Option ℕ
replaced_by number registry =
    option_and_then (λ r. option_and_then (other_number number) (confirmed_of registry r.id))
    (unconfirmed_of_client number registry)

-- The client with this number can become live: the number wasn't given yet, or the client has an unconfirmed record and
-- no confirmed one. A client that was live can't become so again. A number of slot 0 passes too, as one that wasn't
-- given yet, and never is.
abbrev pub can_become_live : ℕ → Registry → Bool
can_become_live number registry =
    not (was_given number registry)
    || (not (is_live number registry) && list_any (is_of_client number) registry.unconfirmed)
