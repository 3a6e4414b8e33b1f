-- What is decided of a READ, a WRITE and a SETATTR is a refusal, NFS4ERR_DELAY with its marks, or what is read, written or
-- set.
use Rattle.std.proofs.Common.{ℕ, Result, Ok, Err}
use Rattle.std.specs.Prelude.{◌+◌, ◌≤◌, ◌==◌, ◌||◌, length, nat_lt}
use Rattle.std.proofs.lemmas.Bool.{cond_both, ltb-false}
use Rattle.nfs_forms.specs.declared.stateid.Stateid.{Stateid}
use Rattle.nfs_forms.specs.declared.status.Refusal.{Refusal}
use Rattle.nfs_forms.specs.declared.status.Refusal.TheVariants as refusals
use Rattle.nfs_operations.specs.declared.read.Read.{Read}
use Rattle.nfs_operations.specs.declared.setattr.Setattr.{Setattr}
use Rattle.nfs_operations.specs.declared.write.Write.{Write}
use Rattle.nfs_rules.specs.Transfers.{delayed, file_for, is_lent_out, permitted, refused, unless_lent}
use Rattle.nfs_rules.specs.declared.decision.Decision.{Decision}
use Rattle.nfs_rules.specs.declared.transfer.Transfer.{Transfer}
use Rattle.nfs_rules.specs.declared.transfer.Transfer.TheVariants as transfers
use Rattle.nfs_rules.specs.declared.wish.Wish.{Wish}
use Rattle.nfs_rules.specs.operations.Read as reads
use Rattle.nfs_rules.specs.operations.Setattr as setattrs
use Rattle.nfs_rules.specs.operations.Write as writes
use Rattle.nfs_state.specs.Changes.{change_alone}
use Rattle.nfs_state.specs.State.{State, History}
use Rattle.nfs_state.specs.declared.change.Change.{Change}
use Rattle.nfs_state.specs.declared.change.Change.TheVariants as changes
use Rattle.nfs_state.specs.declared.request.Request.{Request}
use Rattle.nfs_xdr.specs.declared.op_result.OpResult.TheVariants as results
use Rattle.nfs_forms.specs.declared.answer.Answer.TheVariants.{Done}
use Rattle.nfs_tree.specs.declared.settable.Settable.{Settable}
use Rattle.nfs_tree.specs.declared.tree.TheConstants.{TEXT_LIMIT}

-- the file, or why bytes of it aren't read or written
each_file : (P : Result ℕ Decision → Type 0) (transfer : Transfer) (journal : History) (state : State) (request : Request) (found : Result ℕ Refusal) (id : Stateid)
    → ((refusal : Refusal) → P (Err (refused transfer refusal))) → ((node : ℕ) → P (Err (delayed transfer request.moment node))) → ((node : ℕ) → P (Ok node))
    → P (unless_lent transfer state request.moment id found)
each_file P transfer journal state request (Err refusal) id refusal_holds delay_holds file_holds = refusal_holds refusal
each_file P transfer journal state request (Ok node) id refusal_holds delay_holds file_holds =
    cond_both (is_lent_out transfer state id node) (Err (delayed transfer request.moment node)) (Ok node) P (λ _. delay_holds node) (λ _. file_holds node)

-- each decision of a READ
pub each_read : (P : Decision → Type 0) (journal : History) (state : State) (request : Request) (args : Read)
    → ((refusal : Refusal) → P (refused transfers.Read refusal)) → ((node : ℕ) → P (delayed transfers.Read request.moment node)) → ((node : ℕ) → P (reads.reading state args (Ok node)))
    → P (reads.reading state args (file_for transfers.Read journal state request args.stateid))
each_read P journal state request args refusal_holds delay_holds read_holds =
    each_file (λ r. P (reads.reading state args r)) transfers.Read journal state request (permitted transfers.Read journal state request.filehandle args.stateid) args.stateid
    refusal_holds delay_holds read_holds

-- what a WRITE with this change is answered
abbrev made : History → Write → Change → Decision
made journal args change = record { answer = results.Write (Done (writes.answer_of journal args)); effect = change_alone change }

-- each decision of a WRITE
pub each_write : (P : Decision → Type 0) (journal : History) (state : State) (request : Request) (args : Write)
    → ((refusal : Refusal) → P (refused transfers.Write refusal)) → ((node : ℕ) → P (delayed transfers.Write request.moment node))
    → P (made journal args changes.Nothing) → ((node : ℕ) → args.offset + length args.bytes ≤ TEXT_LIMIT → P (made journal args (changes.Writes node args.offset args.bytes)))
    → P (writes.writing journal args (file_for transfers.Write journal state request args.stateid))
each_write P journal state request args refusal_holds delay_holds nothing_holds write_holds =
    each_file (λ r. P (writes.writing journal args r)) transfers.Write journal state request (permitted transfers.Write journal state request.filehandle args.stateid) args.stateid
    refusal_holds delay_holds λ node.
    cond_both (nat_lt TEXT_LIMIT (args.offset + length args.bytes)) (refused transfers.Write refusals.FBig) (writes.written journal args node) P (λ _. refusal_holds refusals.FBig)
    (λ short. cond_both (length args.bytes == 0) changes.Nothing (changes.Writes node args.offset args.bytes) (λ change. P (made journal args change)) (λ _. nothing_holds)
    (λ _. write_holds node (ltb-false TEXT_LIMIT (args.offset + length args.bytes) short)))

-- each decision of a SETATTR that was found to ask for this
each_granted : (P : Decision → Type 0) (journal : History) (state : State) (request : Request) (args : Setattr) (found : Result Wish Refusal)
    → ((refusal : Refusal) → P (refused transfers.Resize refusal)) → ((node : ℕ) → P (delayed transfers.Resize request.moment node))
    → ((asked : Settable) → P (setattrs.set asked changes.Nothing)) → ((asked : Settable) (node size : ℕ) → size ≤ TEXT_LIMIT → P (setattrs.set asked (changes.Cuts node size)))
    → P (setattrs.granted journal state request args found)
each_granted P journal state request args (Err refusal) refusal_holds delay_holds nothing_holds size_holds = refusal_holds refusal
each_granted P journal state request args (Ok wish) refusal_holds delay_holds nothing_holds size_holds =
    cond_both (wish.asked.size || wish.asked.time) (setattrs.setting state wish (file_for transfers.Resize journal state request args.stateid)) (setattrs.set wish.asked changes.Nothing) P
    (λ _. each_file (λ r. P (setattrs.setting state wish r)) transfers.Resize journal state request (permitted transfers.Resize journal state request.filehandle args.stateid) args.stateid
    refusal_holds delay_holds λ node.
    cond_both (nat_lt TEXT_LIMIT (setattrs.size_for state node wish.size)) (refused transfers.Resize refusals.FBig) (setattrs.set wish.asked (changes.Cuts node (setattrs.size_for state node wish.size))) P
    (λ _. refusal_holds refusals.FBig)
    (λ short. size_holds wish.asked node (setattrs.size_for state node wish.size) (ltb-false TEXT_LIMIT (setattrs.size_for state node wish.size) short)))
    (λ _. nothing_holds wish.asked)

-- each decision of a SETATTR
pub each_setattr : (P : Decision → Type 0) (journal : History) (state : State) (request : Request) (args : Setattr)
    → ((refusal : Refusal) → P (refused transfers.Resize refusal)) → ((node : ℕ) → P (delayed transfers.Resize request.moment node))
    → ((asked : Settable) → P (setattrs.set asked changes.Nothing)) → ((asked : Settable) (node size : ℕ) → size ≤ TEXT_LIMIT → P (setattrs.set asked (changes.Cuts node size)))
    → P (setattrs.granted journal state request args (setattrs.wish_of request.filehandle args.attributes))
each_setattr P journal state request args refusal_holds delay_holds nothing_holds size_holds =
    each_granted P journal state request args (setattrs.wish_of request.filehandle args.attributes) refusal_holds delay_holds nothing_holds size_holds
