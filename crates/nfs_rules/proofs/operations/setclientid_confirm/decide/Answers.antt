use Rattle.std.proofs.Common.{◌≡◌, refl}
use Rattle.nfs_owners.specs.Confirmation.{confirmation, holder_of}
use Rattle.nfs_owners.specs.Registry.{record_state, unconfirmed_named_by}
use Rattle.nfs_rules.specs.operations.SetclientidConfirm.{decision_of, path_of, rule}
use Rattle.nfs_rules.proofs.Sequenced.{fails_as}
use Rattle.nfs_rules.proofs.operations.setclientid_confirm.decide.Goals as goal
use Rattle.nfs_state.specs.Room.{state_of}
use Rattle.nfs_state.specs.State.{record_has_state}
use Rattle.nfs_state.specs.declared.shortage.Shortage.TheVariants.{Memory}
use Rattle.nfs_xdr.specs.declared.op.Op.TheVariants as ops

pub returns-in_err-answer : goal.returns-in_err-answer
returns-in_err-answer c =
    let journal = c.args.store.now.journal.history in
    let state = state_of c.args.store.now.tables in
    let request = c.args.request.now in
    let args = c.args.args.now in
    let has_state = record_has_state state (record_state (holder_of (unconfirmed_named_by args state.clients) state.clients)) in
    fails_as (λ d. d ≡ rule journal state request args) state (ops.SetclientidConfirm args) Memory c.from_residual.result c.from_residual.ensures.0 c.from_residual.ensures.1
    (decision_of (confirmation (path_of journal.policy.callbacks) has_state state.clients request.principal args), refl)
