-- READ (RFC 7530, section 16.23): gives bytes of a file; the state doesn't change.
use Rattle.std.specs.Prelude.{ℕ, Option, Some, Result, Ok, Err}
use Rattle.nfs_forms.specs.declared.answer.Answer.TheVariants.{Done}
use Rattle.nfs_operations.specs.declared.read.Read.{Read}
use Rattle.nfs_operations.specs.declared.read.ReadOk.{ReadOk}
use Rattle.nfs_rules.specs.Transfers.{file_for}
use Rattle.nfs_rules.specs.declared.decision.Decision.{Decision}
use Rattle.nfs_rules.specs.declared.transfer.Transfer.TheVariants as transfers
use Rattle.nfs_state.specs.Changes.{change_alone}
use Rattle.nfs_state.specs.Files.{bytes_of, file_of, read_of}
use Rattle.nfs_state.specs.State.{State, History}
use Rattle.nfs_state.specs.declared.change.Change.TheVariants.{Nothing}
use Rattle.nfs_state.specs.declared.request.Request.{Request}
use Rattle.nfs_xdr.specs.declared.op_result.OpResult.TheVariants as results

-- whether nothing comes after them (eof), and the bytes that are given of the node's file
abbrev pub answer_of : State → Read → ℕ → ReadOk
answer_of state args node =
    let part = read_of (bytes_of (file_of state.files node)) args.offset args.count in
    record { eof = part.0; bytes = part.1 }

abbrev pub reading : State → Read → Result ℕ Decision → Decision
reading state args (Err decision) = decision
reading state args (Ok node) = record {
  answer = results.Read (Done (answer_of state args node));
  effect = change_alone Nothing;
}

-- the rule of READ; there is always a decision
abbrev pub rule : History → State → Request → Read → Option Decision
rule journal state request args =
    Some (reading state args (file_for transfers.Read journal state request args.stateid))
