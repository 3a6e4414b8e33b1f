use Rattle.std.proofs.Common.{◌≡◌, refl}
use Rattle.nfs_rules.specs.operations.ReleaseLockowner.{decision_of, rule}
use Rattle.nfs_rules.proofs.Sequenced.{fails_as}
use Rattle.nfs_rules.proofs.operations.release_lockowner.decide.Goals as goal
use Rattle.nfs_state.specs.Room.{state_of}
use Rattle.nfs_state.specs.declared.shortage.Shortage.TheVariants.{Memory}
use Rattle.nfs_xdr.specs.declared.op.Op.TheVariants as ops

pub returns-in_err-clone : goal.returns-in_err-clone
returns-in_err-clone c =
    let state = state_of c.args.tables.now in
    let args = c.args.args.now in
    fails_as (λ d. d ≡ rule state args) state (ops.ReleaseLockowner args) Memory c.from_residual.result c.from_residual.ensures.0 c.from_residual.ensures.1
    (decision_of state args, refl)
