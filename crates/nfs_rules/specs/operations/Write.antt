-- WRITE (RFC 7530, section 16.36): puts bytes into a file.
use Rattle.std.specs.Prelude.{ℕ, ◌+◌, ◌==◌, nat_lt, length, Option, Some, Result, Ok, Err, if◌then◌else◌}
use Rattle.nfs_forms.specs.declared.answer.Answer.TheVariants.{Done}
use Rattle.nfs_forms.specs.declared.stable_how.StableHow.TheVariants.{FileSync}
use Rattle.nfs_forms.specs.declared.status.Refusal.TheVariants as refusals
use Rattle.nfs_operations.specs.declared.write.Write.{Write}
use Rattle.nfs_operations.specs.declared.write.WriteOk.{WriteOk}
use Rattle.nfs_rules.specs.Transfers.{file_for, refused}
use Rattle.nfs_rules.specs.declared.decision.Decision.{Decision}
use Rattle.nfs_rules.specs.declared.transfer.Transfer.TheVariants as transfers
use Rattle.nfs_state.specs.Changes.{change_alone}
use Rattle.nfs_state.specs.State.{State, History}
use Rattle.nfs_state.specs.declared.change.Change.{Change}
use Rattle.nfs_state.specs.declared.change.Change.TheVariants.{Nothing, Writes}
use Rattle.nfs_state.specs.declared.request.Request.{Request}
use Rattle.nfs_tree.specs.Exports.{verifier_of}
use Rattle.nfs_tree.specs.declared.tree.TheConstants.{TEXT_LIMIT}
use Rattle.nfs_xdr.specs.declared.op_result.OpResult.TheVariants as results

-- All bytes are written, and are on stable storage as far as this server has one, whatever was asked for.
abbrev pub answer_of : History → Write → WriteOk
answer_of journal args = record {
  count = length args.bytes;
  committed = FileSync;
  verifier = verifier_of journal.epoch;
}

-- The bytes come into the node's file at the offset; without bytes nothing changes.
abbrev pub change_by : Write → ℕ → Change
change_by args node = if length args.bytes == 0 then Nothing else Writes node args.offset args.bytes

abbrev pub written : History → Write → ℕ → Decision
written journal args node = record {
  answer = results.Write (Done (answer_of journal args));
  effect = change_alone (change_by args node);
}

-- NFS4ERR_FBIG for an end beyond the limit of a file, also of no bytes, after all other refusals
abbrev pub writing : History → Write → Result ℕ Decision → Decision
writing journal args (Err decision) = decision
writing journal args (Ok node) =
    if nat_lt TEXT_LIMIT (args.offset + length args.bytes)
    then refused transfers.Write refusals.FBig
    else written journal args node

-- the rule of WRITE; there is always a decision
abbrev pub rule : History → State → Request → Write → Option Decision
rule journal state request args =
    Some (writing journal args (file_for transfers.Write journal state request args.stateid))
