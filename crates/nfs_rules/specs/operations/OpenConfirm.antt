-- OPEN_CONFIRM (RFC 7530, section 16.18): confirms an owner after its first OPEN.
use Rattle.std.specs.Prelude.{◌≡◌, Some, Result, Ok, Err, if◌then◌else◌}
use Rattle.nfs_state.specs.declared.change.Change.TheVariants.{Nothing, Confirms}
use Rattle.nfs_owners.specs.StateOwner.{open_owner}
use Rattle.nfs_state.specs.Owners.{is_confirmed}
use Rattle.nfs_rules.specs.declared.ruling.Ruling.{Ruling}
use Rattle.nfs_rules.specs.Sequences.{Own}
use Rattle.nfs_rules.specs.Refusing.{◌>>=◌}
use Rattle.nfs_rules.specs.Stateids.{any_open, as_open, verdict}
use Rattle.nfs_state.specs.State.{State, History}
use Rattle.nfs_share.specs.AllOpens.{OpenAt}
use Rattle.nfs_share.specs.Opens.{next_stateid_of}
use Rattle.nfs_forms.specs.declared.answer.Answer.TheVariants.{Done, Refused}
use Rattle.nfs_xdr.specs.declared.op_result.OpResult.TheVariants as results
use Rattle.nfs_operations.specs.declared.open_confirm.OpenConfirm.{OpenConfirm}
use Rattle.nfs_forms.specs.declared.status.Refusal.{Refusal}
use Rattle.nfs_forms.specs.declared.status.Refusal.TheVariants.{BadStateId}

abbrev pub refusal_of : Refusal → Ruling
refusal_of refusal = record { answer = results.OpenConfirm (Refused refusal); change = Nothing }

-- The owner is confirmed, and the open's stateid comes back with the next seqid. NFS4ERR_BAD_STATEID for an owner that
-- is confirmed already.
abbrev pub confirmation : State → Result OpenAt Refusal → Ruling
confirmation state (Err refusal) = refusal_of refusal
confirmation state (Ok at) =
    if is_confirmed (open_owner at.state.owner) state.owners then refusal_of BadStateId
    else record {
      answer = results.OpenConfirm (Done (next_stateid_of at.state));
      change = Confirms at.node at.state.number at.state.owner;
    }

-- the rule of OPEN_CONFIRM under the current filehandle: the stateid has to name an open there
abbrev pub own : History → State → OpenConfirm → Own
own journal state args request node passage ruling =
    ruling ≡ Some (confirmation state
    (verdict (any_open node) journal.epoch state args.stateid >>= as_open))
