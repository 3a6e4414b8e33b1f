-- SETATTR (RFC 7530, section 16.32): sets the size of a file, or the time of its last change to the server's.
use Rattle.std.specs.Prelude.{ℕ, nat_lt, ◌||◌, Option, Some, None, Result, Ok, Err, if◌then◌else◌}
use Rattle.nfs_forms.specs.declared.fattr.Fattr.{Fattr}
use Rattle.nfs_forms.specs.declared.status.Refusal.{Refusal}
use Rattle.nfs_forms.specs.declared.status.Refusal.TheVariants as refusals
use Rattle.nfs_forms.specs.declared.status.Status.TheVariants as statuses
use Rattle.nfs_operations.specs.declared.setattr.Setattr.{Setattr}
use Rattle.nfs_rules.specs.Refusing.{◌>>=◌}
use Rattle.nfs_rules.specs.Transfers.{file_for, refused}
use Rattle.nfs_rules.specs.declared.decision.Decision.{Decision}
use Rattle.nfs_rules.specs.declared.transfer.Transfer.TheVariants as transfers
use Rattle.nfs_rules.specs.declared.wish.Wish.{Wish}
use Rattle.nfs_rules.specs.operations.Lockt.{place_of}
use Rattle.nfs_state.specs.Changes.{change_alone}
use Rattle.nfs_state.specs.Files.{file_of, size_of}
use Rattle.nfs_state.specs.State.{State, History}
use Rattle.nfs_state.specs.declared.change.Change.{Change}
use Rattle.nfs_state.specs.declared.change.Change.TheVariants.{Nothing, Cuts}
use Rattle.nfs_state.specs.declared.request.Request.{Request}
use Rattle.nfs_tree.specs.Setting.{mask_set, settable_of, size_set}
use Rattle.nfs_tree.specs.declared.settable.Settable.{Settable}
use Rattle.nfs_tree.specs.declared.tree.TheConstants.{TEXT_LIMIT}
use Rattle.nfs_xdr.specs.declared.op_result.OpResult.TheVariants as results

-- What is wished for, or the first refusal: NFS4ERR_NOFILEHANDLE, those of the mask, those of the values.
abbrev pub wish_of : Option ℕ → Fattr → Result Wish Refusal
wish_of filehandle attributes =
    place_of filehandle >>= λ node.
    settable_of attributes.mask >>= λ asked.
    size_set asked attributes.values >>= λ size.
    Ok (record { asked = asked; size = size })

-- all that was asked for is set
abbrev pub set : Settable → Change → Decision
set asked change = record {
  answer = results.Setattr (record { status = statuses.Ok; attributes = mask_set asked });
  effect = change_alone change;
}

-- the size that the node's file gets: where only its time is set, the one that it has
abbrev pub size_for : State → ℕ → Option ℕ → ℕ
size_for state node None = size_of (file_of state.files node)
size_for state node (Some size) = size

-- NFS4ERR_FBIG for a size beyond the limit of a file, after all other refusals. Otherwise the file has changed once
-- more, whatever size it had.
abbrev pub setting : State → Wish → Result ℕ Decision → Decision
setting state wish (Err decision) = decision
setting state wish (Ok node) =
    let size = size_for state node wish.size in
    if nat_lt TEXT_LIMIT size then refused transfers.Resize refusals.FBig
    else set wish.asked (Cuts node size)

-- Where nothing is asked for, nothing is done, whatever the filehandle and the stateid are of.
abbrev pub granted : History → State → Request → Setattr → Result Wish Refusal → Decision
granted journal state request args (Err refusal) = refused transfers.Resize refusal
granted journal state request args (Ok wish) =
    if wish.asked.size || wish.asked.time
    then setting state wish (file_for transfers.Resize journal state request args.stateid)
    else set wish.asked Nothing

-- the rule of SETATTR; there is always a decision
abbrev pub rule : History → State → Request → Setattr → Option Decision
rule journal state request args =
    Some (granted journal state request args (wish_of request.filehandle args.attributes))
