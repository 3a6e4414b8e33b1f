-- What SETCLIENTID_CONFIRM does to the clients' records (RFC 7530, section 16.34.5).
use Rattle.std.specs.Prelude.{Bool, not, ◌&&◌, Option, Some, None, if◌then◌else◌}
use Rattle.nfs_owners.specs.declared.client_record.ClientRecord.{ClientRecord}
use Rattle.nfs_owners.specs.declared.client_record.ClientState.{ClientState}
use Rattle.nfs_owners.specs.declared.client_record.PathMark.{PathMark}
use Rattle.nfs_owners.specs.declared.clients.client_change.ClientChange.{ClientChange}
use Rattle.nfs_owners.specs.declared.clients.client_change.ClientChange.TheVariants.{Nothing, Confirms, Refreshes, Replaces}
use Rattle.nfs_forms.specs.ClientId.{is_same_client}
use Rattle.nfs_owners.specs.Registry.{Registry, confirmed_named_by, confirmed_of, record_state, unconfirmed_named_by}
use Rattle.nfs_forms.specs.declared.answer.Answer.TheVariants.{Done, ClidInUse, Refused}
use Rattle.nfs_operations.specs.declared.setclientid_confirm.SetclientidConfirm.{SetclientidConfirm}
use Rattle.nfs_forms.specs.declared.principal.Principal.{Principal}
use Rattle.nfs_forms.specs.declared.status.Refusal.TheVariants.{StaleClientId}
use Rattle.nfs_forms.specs.Answer.{PlainAnswer}
use Rattle.nfs_forms.specs.Principal.{is_same_principal}

-- the answer of SETCLIENTID_CONFIRM: a status without further data
abbrev pub Outcome : Type 0
Outcome = PlainAnswer (Unit {0})

-- The case that applies to a call of SETCLIENTID_CONFIRM, which names a record by its clientid and its confirm value.
pub data Confirmation : Type 0 where
  -- no record has the clientid and the confirm value of the call
  Stale : Confirmation
  -- the named record belongs to another principal, or another principal's client with state is using its id
  InUse : Confirmation
  -- the named record is already confirmed: the call is a retransmission
  Retransmission : Confirmation
  -- the named record becomes the confirmed record of its id, which had none before
  First : ClientRecord → Confirmation
  -- the id's confirmed record has the same clientid as the named unconfirmed record, and is updated from it
  Update : ClientState → ClientRecord → Confirmation
  -- the named unconfirmed record replaces the id's confirmed record, whose client is removed
  InPlaceOf : ClientState → ClientRecord → Confirmation

-- The case if an unconfirmed record is named. It depends on the confirmed record with the same id; `has_state` is
-- whether the client of that record has state.
abbrev pub confirmation_beside : Option ClientState → ClientRecord → Bool → Confirmation
confirmation_beside None r has_state = First r
confirmation_beside (Some old) r has_state =
    if is_same_client old.client r.state.client then Update old r
    else (if not (is_same_principal old.principal r.state.principal) && has_state then InUse
    else InPlaceOf old r)

-- The case if no unconfirmed record is named. It depends on the confirmed record that is named, if there is one.
abbrev pub confirmation_before : Option ClientState → Principal → Confirmation
confirmation_before None principal = Stale
confirmation_before (Some r) principal =
    if is_same_principal r.principal principal then Retransmission else InUse

-- The case that applies, given the unconfirmed record that is named, if there is one.
abbrev pub finding :
    Option ClientRecord → Registry → Bool → Principal → SetclientidConfirm → Confirmation
finding (Some r) registry has_state principal args =
    if is_same_principal r.state.principal principal
    then confirmation_beside (record_state (confirmed_of registry r.id)) r has_state
    else InUse
finding None registry has_state principal args =
    confirmation_before (record_state (confirmed_named_by args registry)) principal

-- the record with this mark for its path
abbrev pub confirmed_record : PathMark → ClientRecord → ClientRecord
confirmed_record path r = record r { state = record r.state { path = path } }

-- The confirmed record after an update: it keeps its clientid and its principal, and takes the verifier, the callback
-- and the confirm value of the unconfirmed record, whose id is the same.
abbrev pub updated_record : PathMark → ClientState → ClientRecord → ClientRecord
updated_record path old r = record r {
  state = record old {
    verifier = r.state.verifier;
    callback = r.state.callback;
    confirm = r.state.confirm;
    path = path;
  };
}

-- The answer and the change in each case. `path` is the mark for the path of a client that is confirmed by this call.
abbrev pub confirmation_by : Confirmation → PathMark → Outcome × ClientChange
confirmation_by Stale path = (Refused StaleClientId, Nothing)
confirmation_by InUse path = (ClidInUse tt, Nothing)
confirmation_by Retransmission path = (Done tt, Nothing)
confirmation_by (First r) path = (Done tt, Confirms (confirmed_record path r))
confirmation_by (Update old r) path = (Done tt, Refreshes (updated_record path old r))
confirmation_by (InPlaceOf old r) path = (Done tt, Replaces (confirmed_record path r) old.client)

-- the answer of SETCLIENTID_CONFIRM and its change of the clients' records
abbrev pub confirmation :
    PathMark → Bool → Registry → Principal → SetclientidConfirm → Outcome × ClientChange
confirmation path has_state registry principal args =
    let found = finding (unconfirmed_named_by args registry) registry has_state principal args in
    confirmation_by found path

-- the confirmed record of the id that the call would confirm, if there is one
abbrev pub holder_of : Option ClientRecord → Registry → Option ClientRecord
holder_of None registry = None
holder_of (Some r) registry = confirmed_of registry r.id
