-- What SETCLIENTID does to the clients' records (RFC 7530, section 16.33.5).
use Rattle.std.specs.Prelude.{ℕ, ◌+◌, Bool, Option, option_map, Some, None, if◌then◌else◌}
use Rattle.std.specs.Str.{bytes_eq}
use Rattle.nfs_owners.specs.declared.client_record.ClientRecord.{ClientRecord}
use Rattle.nfs_owners.specs.declared.client_record.ClientState.{ClientState}
use Rattle.nfs_owners.specs.declared.client_record.PathMark.TheVariants.{Unknown}
use Rattle.nfs_owners.specs.declared.clients.client_change.ClientChange.{ClientChange}
use Rattle.nfs_owners.specs.declared.clients.client_change.ClientChange.TheVariants.{Nothing, Arrives, Updates}
use Rattle.nfs_owners.specs.Addresses.{is_within_limit}
use Rattle.nfs_owners.specs.Choice.{choice}
use Rattle.nfs_owners.specs.Registry.{Registry, confirmed_of, record_state}
use Rattle.nfs_forms.specs.declared.callback.Address.{Address}
use Rattle.nfs_forms.specs.declared.answer.Answer.{Answer}
use Rattle.nfs_forms.specs.declared.answer.Answer.TheVariants.{Done, ClidInUse}
use Rattle.nfs_forms.specs.declared.client_id.ClientId.{ClientId}
use Rattle.nfs_operations.specs.declared.setclientid.Setclientid.{Setclientid}
use Rattle.nfs_operations.specs.declared.setclientid_confirm.SetclientidConfirm.{SetclientidConfirm}
use Rattle.nfs_forms.specs.declared.principal.Principal.{Principal}
use Rattle.nfs_forms.specs.Principal.{is_same_principal}

-- the answer of SETCLIENTID
abbrev pub Outcome : Type 0
Outcome = Answer SetclientidConfirm (Unit {0}) Address

-- The case that applies to a call of SETCLIENTID, given the confirmed record with its id.
pub data Finding : Type 0 where
  -- another principal's client has the id, and has state
  InUse : Address → Finding
  -- the client of the id's confirmed record sends the same verifier as before: only its callback is updated
  Update : ClientId → Finding
  -- a client that gets a new number: its id is unknown, was never confirmed, or belongs to another principal's client
  -- without state, or the client has restarted, since its verifier has changed
  Arrival : Finding

-- The case, given the confirmed record with the id. `has_state` is whether the client of that record has state.
abbrev pub finding : Option ClientState → Bool → Principal → Setclientid → Finding
finding None has_state principal args = Arrival
finding (Some r) has_state principal args =
    if is_same_principal r.principal principal
    then (if bytes_eq r.verifier.0 args.verifier.0 then Update r.client else Arrival)
    else (if has_state then InUse r.callback.address else Arrival)

-- the record that SETCLIENTID adds for a clientid and a confirm value, not yet confirmed
abbrev pub unconfirmed_record : Principal → Setclientid → SetclientidConfirm → ClientRecord
unconfirmed_record principal args answer = record {
  id = args.id;
  state = record {
    principal = principal;
    verifier = args.verifier;
    callback = args.callback;
    confirm = answer.confirm;
    client = answer.client;
    path = Unknown;
  };
}

-- a clientid together with the next confirm value
abbrev pub next_confirm : ClientId → Registry → SetclientidConfirm
next_confirm client registry = record { client = client; confirm = registry.last_confirm + 1 }

-- the answer to a newcomer who is given this number, and the change
abbrev pub arrival : ℕ → Registry → Principal → Setclientid → ℕ → Outcome × ClientChange
arrival epoch registry principal args number =
    let answer = next_confirm (record { epoch = epoch; number = number }) registry in
    (Done answer, Arrives (unconfirmed_record principal args answer))

-- The answer and the change in each case, or `None` if a limit would be exceeded: the address is too long, or no number
-- is left for a newcomer. `epoch` is the number of the server's run.
abbrev pub registration_by :
    Finding → ℕ → Registry → Principal → Setclientid → Option (Outcome × ClientChange)
registration_by (InUse address) epoch registry principal args = Some (ClidInUse address, Nothing)
registration_by (Update client) epoch registry principal args =
    let answer = next_confirm client registry in
    if is_within_limit args.callback.address
    then Some (Done answer, Updates (unconfirmed_record principal args answer))
    else None
registration_by Arrival epoch registry principal args =
    if is_within_limit args.callback.address
    then option_map (arrival epoch registry principal args) (choice args.id registry)
    else None

-- the answer of SETCLIENTID and its change of the clients' records, or `None` if a limit would be exceeded
abbrev pub registration :
    ℕ → Bool → Registry → Principal → Setclientid → Option (Outcome × ClientChange)
registration epoch has_state registry principal args =
    let holder = record_state (confirmed_of registry args.id) in
    let found = finding holder has_state principal args in
    registration_by found epoch registry principal args
