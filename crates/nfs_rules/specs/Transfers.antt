-- Who may read and write the bytes of a file, by which stateid: one rule for READ, WRITE and a SETATTR of the size (RFC
-- 7530, sections 9.1.4.3, 9.1.6, 10.4.4, 16.23, 16.32 and 16.36).
use Rattle.std.specs.Prelude.{ℕ, Bool, true, false, not, ◌&&◌, Option, Some, None, Result, Ok, Err, if◌then◌else◌}
use Rattle.nfs_forms.specs.Stateid.{is_special}
use Rattle.nfs_forms.specs.declared.stateid.Stateid.{Stateid}
use Rattle.nfs_forms.specs.declared.status.Refusal.{Refusal}
use Rattle.nfs_forms.specs.declared.status.Refusal.TheVariants as refusals
use Rattle.nfs_rules.specs.Refusing.{◌>>=◌, refused_if}
use Rattle.nfs_rules.specs.Stateids.{Found, AnOpen, ALock, ADelegation, any_state, verdict}
use Rattle.nfs_rules.specs.declared.decision.Decision.{Decision}
use Rattle.nfs_rules.specs.declared.transfer.Transfer.{Transfer}
use Rattle.nfs_rules.specs.declared.transfer.Transfer.TheVariants as transfers
use Rattle.nfs_rules.specs.operations.Lockt.{place_of}
use Rattle.nfs_share.specs.AllOpens.{delegations_of, opens_of}
use Rattle.nfs_share.specs.Delegations.{has_conflict}
use Rattle.nfs_share.specs.Modes.{contains, modes}
use Rattle.nfs_share.specs.Opens.{is_denied, open_with_number, share_of}
use Rattle.nfs_share.specs.declared.delegation.DelegationKind.{DelegationKind}
use Rattle.nfs_share.specs.declared.delegation.DelegationKind.TheVariants as kinds
use Rattle.nfs_share.specs.declared.delegation.FileUse.TheVariants as uses
use Rattle.nfs_share.specs.declared.modes.Modes.{Modes}
use Rattle.nfs_share.specs.declared.open_state.OpenState.{OpenState}
use Rattle.nfs_state.specs.Changes.{change_alone}
use Rattle.nfs_state.specs.State.{State, History}
use Rattle.nfs_state.specs.declared.change.Change.TheVariants.{Nothing, Recalls}
use Rattle.nfs_state.specs.declared.request.Request.{Request}
use Rattle.nfs_tree.specs.Tree.{is_directory}
use Rattle.nfs_xdr.specs.OpResult.{refusal_of}
use Rattle.nfs_xdr.specs.declared.opnum.Opnum.{Opnum}
use Rattle.nfs_xdr.specs.declared.opnum.Opnum.TheVariants as opnums

abbrev pub opnum_of : Transfer → Opnum
opnum_of transfers.Read = opnums.Read
opnum_of transfers.Write = opnums.Write
opnum_of transfers.Resize = opnums.Setattr

-- The access that it needs of an open, and that an open may deny. Another size is other bytes, as a WRITE makes them.
abbrev pub mode_of : Transfer → Modes
mode_of transfers.Read = modes true false
mode_of transfers.Write = modes false true
mode_of transfers.Resize = modes false true

-- The file of the current filehandle: NFS4ERR_NOFILEHANDLE where there is none, NFS4ERR_ISDIR for a directory.
abbrev pub file_in : History → Option ℕ → Result ℕ Refusal
file_in journal filehandle =
    place_of filehandle >>= λ node.
    refused_if (is_directory journal.nodes node) refusals.IsDir node

-- A special stateid stands for no state, so that it is judged by the opens of all: NFS4ERR_LOCKED where one denies it.
abbrev pub unless_denied : Transfer → State → ℕ → Result ℕ Refusal
unless_denied transfer state node =
    refused_if (is_denied (mode_of transfer) (opens_of node state.opens)) refusals.Locked node

-- the open, as it is now, has access for it
abbrev pub has_access : Transfer → Option OpenState → Bool
has_access transfer None = false
has_access transfer (Some o) = contains (share_of o).access (mode_of transfer)

-- a delegation of this kind is for it
abbrev pub is_for : Transfer → DelegationKind → Bool
is_for transfers.Read kind = true
is_for transfer kinds.Read = false
is_for transfer kinds.Write = true

-- What was found allows it: an open by its access, a lock state by that of its open, a delegation by its kind.
abbrev pub allows : Transfer → State → Found → Bool
allows transfer state (AnOpen at) = has_access transfer (Some at.state)
allows transfer state (ALock at) =
    has_access transfer (open_with_number at.state.open_number (opens_of at.node state.opens))
allows transfer state (ADelegation at) = is_for transfer at.state.kind

-- Any other stateid has to name a state of the file, an open only of a confirmed owner: the verdict on it, and
-- NFS4ERR_OPENMODE where that state doesn't allow it.
abbrev pub if_allowed : Transfer → History → State → Stateid → ℕ → Result ℕ Refusal
if_allowed transfer journal state id node =
    verdict (any_state node) journal.epoch state id >>= λ found.
    refused_if (not (allows transfer state found)) refusals.OpenMode node

-- the file, or the first refusal that changes nothing
abbrev pub permitted : Transfer → History → State → Option ℕ → Stateid → Result ℕ Refusal
permitted transfer journal state filehandle id =
    file_in journal filehandle >>= λ node.
    if is_special id then unless_denied transfer state node
    else if_allowed transfer journal state id node

-- With a special stateid, which is no client's, a delegation of the file is in its way (section 10.4.4).
abbrev pub is_lent_out : Transfer → State → Stateid → ℕ → Bool
is_lent_out transfer state id node =
    is_special id
    && has_conflict (uses.Special (mode_of transfer)) (delegations_of node state.delegations)

-- a refusal, which changes nothing
abbrev pub refused : Transfer → Refusal → Decision
refused transfer refusal =
    record { answer = refusal_of (opnum_of transfer) refusal; effect = change_alone Nothing }

-- NFS4ERR_DELAY: what is in the way is called back at this moment
abbrev pub delayed : Transfer → ℕ → ℕ → Decision
delayed transfer moment node = record {
  answer = refusal_of (opnum_of transfer) refusals.Delay;
  effect = change_alone (Recalls node (uses.Special (mode_of transfer)) moment);
}

-- the file, unless a delegation is in the way
abbrev pub unless_lent : Transfer → State → ℕ → Stateid → Result ℕ Refusal → Result ℕ Decision
unless_lent transfer state moment id (Err refusal) = Err (refused transfer refusal)
unless_lent transfer state moment id (Ok node) =
    if is_lent_out transfer state id node then Err (delayed transfer moment node) else Ok node

-- the file of which bytes are read or written, or what is decided where they aren't
abbrev pub file_for : Transfer → History → State → Request → Stateid → Result ℕ Decision
file_for transfer journal state request id =
    unless_lent transfer state request.moment id
    (permitted transfer journal state request.filehandle id)
