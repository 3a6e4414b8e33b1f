use Rattle.std.proofs.Common.{◌≡◌, refl}
use Rattle.nfs_rules.specs.operations.Readdir.{answer_of, rule}
use Rattle.nfs_rules.proofs.Sequenced.{fails_as}
use Rattle.nfs_rules.proofs.operations.readdir.decide.Goals as goal
use Rattle.nfs_state.specs.Changes.{change_alone}
use Rattle.nfs_state.specs.Room.{state_of}
use Rattle.nfs_state.specs.declared.change.Change.TheVariants.{Nothing}
use Rattle.nfs_state.specs.declared.shortage.Shortage.TheVariants.{Memory}
use Rattle.nfs_xdr.specs.declared.op.Op.TheVariants as ops
use Rattle.nfs_xdr.specs.declared.op_result.OpResult.TheVariants as results

pub returns-in_err-answer : goal.returns-in_err-answer
returns-in_err-answer c =
    let journal = c.args.store.now.journal.history in
    let state = state_of c.args.store.now.tables in
    let filehandle = c.args.request.now.filehandle in
    let args = c.args.args.now in
    fails_as (λ d. d ≡ rule journal state filehandle args) state (ops.Readdir args) Memory c.from_residual.result c.from_residual.ensures.0 c.from_residual.ensures.1
    (record { answer = results.Readdir (answer_of journal state filehandle args); effect = change_alone Nothing }, refl)
