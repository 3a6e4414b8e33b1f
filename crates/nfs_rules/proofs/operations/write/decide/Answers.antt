use Rattle.std.proofs.Common.{◌≡◌, ◌∙◌, ℕ, Err, Result, Some, ap, refl, sym}
use Rattle.nfs_rules.specs.Transfers.{file_for}
use Rattle.nfs_rules.specs.declared.decision.Decision.{Decision}
use Rattle.nfs_rules.specs.declared.transfer.Transfer.TheVariants.{Write}
use Rattle.nfs_rules.specs.operations.Write.{rule, writing}
use Rattle.nfs_rules.proofs.Sequenced.{fails_as}
use Rattle.nfs_rules.proofs.Transferring.{file_refusal}
use Rattle.nfs_rules.proofs.operations.write.decide.Goals as goal
use Rattle.nfs_state.specs.Room.{state_of}
use Rattle.nfs_state.specs.declared.shortage.Shortage.TheVariants.{Memory}
use Rattle.nfs_xdr.specs.declared.op.Op.TheVariants as ops

pub returns-in-Err : goal.returns-in-Err
returns-in-Err c =
    let journal = c.args.store.now.journal.history in
    let state = state_of c.args.store.now.tables in
    let args = c.args.args.now in
    let is : Err c.in-Err.decision ≡ file_for Write journal state c.args.request.now args.stateid = sym c.in-Err.is ∙ c.file_for.ensures in
    let refusal = file_refusal Write (ops.Write args) journal state c.args.request.now args.stateid c.in-Err.decision refl is in
    (ap (λ (r : Result ℕ Decision). Some (writing journal args r)) is, refusal.sendable, refusal.within, refusal.place)

pub returns-in_err-change : goal.returns-in_err-change
returns-in_err-change c =
    let journal = c.args.store.now.journal.history in
    let state = state_of c.args.store.now.tables in
    let request = c.args.request.now in
    let args = c.args.args.now in
    fails_as (λ d. d ≡ rule journal state request args) state (ops.Write args) Memory c.from_residual.result c.from_residual.ensures.0 c.from_residual.ensures.1
    (writing journal args (file_for Write journal state request args.stateid), refl)
