use Rattle.std.proofs.Common.{◌≡◌, Some, Err, ap, refl}
use Rattle.std.specs.Prelude.{Result}
use Rattle.nfs_forms.specs.declared.status.Refusal.{Refusal}
use Rattle.nfs_rules.specs.Finding.{target_seen}
use Rattle.nfs_rules.specs.Refusing.{◌>>=◌}
use Rattle.nfs_rules.specs.Stateids.{any_open, as_open, verdict}
use Rattle.nfs_rules.specs.operations.OpenConfirm.{confirmation, own}
use Rattle.nfs_rules.proofs.Sendable.{open_judged, open_refusal, refused_ruled}
use Rattle.nfs_rules.proofs.Sequenced.{rules_fail}
use Rattle.nfs_rules.proofs.operations.open_confirm.rule.Goals as goal
use Rattle.nfs_share.specs.AllOpens.{OpenAt}
use Rattle.nfs_state.specs.Room.{state_of}
use Rattle.nfs_state.specs.declared.shortage.Shortage.TheVariants.{Memory}
use Rattle.nfs_xdr.specs.declared.op.Op.TheVariants as ops

pub returns-in-Err : goal.returns-in-Err
returns-in-Err c = λ journal request passage is.
    let args = c.args.args.now in
    let state = state_of c.args.tables.now in
    let demand = any_open c.args.node in
    let found : Err c.in-Err.refusal ≡ (verdict demand journal.epoch state args.stateid >>= as_open) =
    open_judged c.any_open.result demand journal.epoch state args.stateid (target_seen c.args.target) (Err c.in-Err.refusal) c.any_open.ensures is c.in-Err.ensures in
    refused_ruled (own journal state args request c.args.node passage) state (ops.OpenConfirm args) c.in-Err.refusal c.refusal.result c.refusal.ensures
    (open_refusal demand journal.epoch state args.stateid c.in-Err.refusal found)
    (ap (λ (f : Result OpenAt Refusal). Some (confirmation state f)) found)

pub returns-in_err-clone : goal.returns-in_err-clone
returns-in_err-clone c = λ journal request passage is.
    let args = c.args.args.now in
    let state = state_of c.args.tables.now in
    rules_fail (own journal state args request c.args.node passage) state (ops.OpenConfirm args) Memory c.from_residual.result c.from_residual.ensures.0 c.from_residual.ensures.1
    (confirmation state (verdict (any_open c.args.node) journal.epoch state args.stateid >>= as_open), refl)
