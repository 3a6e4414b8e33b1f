-- What is decided of a READ or a WRITE that isn't made can be sent.
use Rattle.std.proofs.Common.{◌≡◌, ◌≢◌, ℕ, Bool, true, false, Option, Result, Ok, Err, ap, subst, sym}
use Rattle.std.specs.Prelude.{⊤, not, if◌then◌else◌}
use Rattle.nfs_forms.specs.Stateid.{is_special}
use Rattle.nfs_forms.specs.declared.stateid.Stateid.{Stateid}
use Rattle.nfs_forms.specs.declared.status.Refusal.{Refusal}
use Rattle.nfs_forms.specs.declared.status.Refusal.TheVariants as refusals
use Rattle.nfs_rules.specs.Deciding.{IsOther}
use Rattle.nfs_rules.specs.Stateids.{any_state, verdict}
use Rattle.nfs_rules.specs.Transfers.{allows, delayed, file_for, file_in, if_allowed, is_lent_out, mode_of, permitted, refused, unless_denied, unless_lent}
use Rattle.nfs_rules.specs.Transfers as transfers
use Rattle.nfs_rules.specs.declared.decision.Decision.{Decision}
use Rattle.nfs_rules.specs.declared.transfer.Transfer.{Transfer}
use Rattle.nfs_rules.specs.operations.Lockt.{place_of}
use Rattle.nfs_rules.proofs.Sendable.{file_place_other, refused_if_other, then_other, verdict_other}
use Rattle.nfs_rules.proofs.Sequencing.{refusal_sendable}
use Rattle.nfs_share.specs.AllOpens.{opens_of}
use Rattle.nfs_share.specs.Opens.{is_denied}
use Rattle.nfs_state.specs.Entries.{IsSendable}
use Rattle.nfs_state.specs.Room.{HasOwnerPlace, IsWithinLimits}
use Rattle.nfs_state.specs.State.{State, History}
use Rattle.nfs_state.specs.declared.request.Request.{Request}
use Rattle.nfs_tree.specs.Tree.{is_directory}
use Rattle.nfs_xdr.specs.Op.{opnum_of}
use Rattle.nfs_xdr.specs.OpResult.{refusal_of}
use Rattle.nfs_xdr.specs.declared.op.Op.{Op}

-- no refusal of it is NFS4ERR_RESOURCE

file_in_other : (journal : History) (filehandle : Option ℕ) → IsOther (file_in journal filehandle)
file_in_other journal filehandle =
    then_other (place_of filehandle) _ (file_place_other filehandle) λ node.
    refused_if_other (is_directory journal.nodes node) refusals.IsDir node (λ e. cc)

denied_other : (transfer : Transfer) (state : State) (node : ℕ) → IsOther (unless_denied transfer state node)
denied_other transfer state node =
    refused_if_other (is_denied (mode_of transfer) (opens_of node state.opens)) refusals.Locked node (λ e. cc)

allowed_other : (transfer : Transfer) (journal : History) (state : State) (id : Stateid) (node : ℕ) → IsOther (if_allowed transfer journal state id node)
allowed_other transfer journal state id node =
    then_other (verdict (any_state node) journal.epoch state id) _ (verdict_other (any_state node) journal.epoch state id) λ found.
    refused_if_other (not (allows transfer state found)) refusals.OpenMode node (λ e. cc)

either_other : (special : Bool) (a b : Result ℕ Refusal) → IsOther a → IsOther b → IsOther (if special then a else b)
either_other true a b first second = first
either_other false a b first second = second

permitted_other : (transfer : Transfer) (journal : History) (state : State) (filehandle : Option ℕ) (id : Stateid) → IsOther (permitted transfer journal state filehandle id)
permitted_other transfer journal state filehandle id =
    then_other (file_in journal filehandle) _ (file_in_other journal filehandle) λ node.
    either_other (is_special id) (unless_denied transfer state node) (if_allowed transfer journal state id node)
    (denied_other transfer state node) (allowed_other transfer journal state id node)

-- what is decided in place of a READ or a WRITE can be sent, and needs no place
pub record IsRefusal (op : Op) (state : State) (decision : Decision) : Type 0 where
  pub sendable : IsSendable op decision.answer
  pub within : IsWithinLimits decision.effect.change state
  pub place : HasOwnerPlace decision.effect.owner state

-- a result that isn't a refusal of that kind says nothing
abbrev IsRefusalIn : Op → State → Result ℕ Decision → Type 0
IsRefusalIn op state (Err decision) = IsRefusal op state decision
IsRefusalIn op state (Ok node) = ⊤

pub refused_is : (transfer : Transfer) (op : Op) (state : State) (refusal : Refusal) → opnum_of op ≡ transfers.opnum_of transfer → refusal ≢ refusals.Resource → IsRefusal op state (refused transfer refusal)
refused_is transfer op state refusal same other = record {
  sendable = refusal_sendable op refusal _ other (ap (λ o. refusal_of o refusal) (sym same));
  within = tt;
  place = tt;
}

lent_is : (lent : Bool) (transfer : Transfer) (op : Op) (state : State) (moment node : ℕ) → opnum_of op ≡ transfers.opnum_of transfer
    → IsRefusalIn op state (if lent then Err (delayed transfer moment node) else Ok node)
lent_is true transfer op state moment node same = record {
  sendable = refusal_sendable op refusals.Delay _ (λ e. cc) (ap (λ o. refusal_of o refusals.Delay) (sym same));
  within = tt;
  place = tt;
}
lent_is false transfer op state moment node same = tt

unless_is : (transfer : Transfer) (op : Op) (state : State) (moment : ℕ) (id : Stateid) (found : Result ℕ Refusal) → opnum_of op ≡ transfers.opnum_of transfer → IsOther found
    → IsRefusalIn op state (unless_lent transfer state moment id found)
unless_is transfer op state moment id (Err refusal) same other = refused_is transfer op state refusal same other
unless_is transfer op state moment id (Ok node) same other = lent_is (is_lent_out transfer state id node) transfer op state moment node same

pub file_refusal : (transfer : Transfer) (op : Op) (journal : History) (state : State) (request : Request) (id : Stateid) (decision : Decision) → opnum_of op ≡ transfers.opnum_of transfer
    → Err decision ≡ file_for transfer journal state request id → IsRefusal op state decision
file_refusal transfer op journal state request id decision same is =
    subst (IsRefusalIn op state) (sym is)
    (unless_is transfer op state request.moment id (permitted transfer journal state request.filehandle id) same (permitted_other transfer journal state request.filehandle id))
