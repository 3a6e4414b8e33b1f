use Rattle.std.proofs.Common.{ℕ, Some, Result, subst}
use Rattle.nfs_forms.specs.declared.status.Refusal.{Refusal}
use Rattle.nfs_rules.specs.operations.Lockt.{IsRuled, IsTest}
use Rattle.nfs_rules.proofs.Sequenced.{fails_as}
use Rattle.nfs_rules.proofs.operations.lockt.decide.Goals as goal
use Rattle.nfs_state.specs.Room.{state_of}
use Rattle.nfs_state.specs.declared.shortage.Shortage.TheVariants.{Memory}
use Rattle.nfs_xdr.specs.declared.op.Op.TheVariants as ops

pub returns-in_err-answer-in-Ok : goal.returns-in_err-answer-in-Ok
returns-in_err-answer-in-Ok c =
    let journal = c.args.store.now.journal.history in
    let state = state_of c.args.store.now.tables in
    let filehandle = c.args.request.now.filehandle in
    let args = c.args.args.now in
    let d = c.in_err-answer-in-Ok.ensures.memory in
    fails_as (IsRuled journal state filehandle args) state (ops.Lockt args) Memory c.from_residual.result c.from_residual.ensures.0 c.from_residual.ensures.1
    (d.0, subst (λ (f : Result ℕ Refusal). IsTest state args f (Some d.0)) c.in-Ok.ensures d.1)
