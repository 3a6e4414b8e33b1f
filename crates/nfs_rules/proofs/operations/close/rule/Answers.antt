use Rattle.std.proofs.Common.{◌≡◌, ◌∙◌, Some, Ok, Err, ap, sym}
use Rattle.std.specs.Prelude.{Result}
use Rattle.nfs_forms.specs.declared.status.Refusal.{Refusal}
use Rattle.nfs_rules.specs.Finding.{target_seen}
use Rattle.nfs_rules.specs.Refusing.{◌>>=◌}
use Rattle.nfs_rules.specs.Stateids.{as_open, confirmed_open, verdict}
use Rattle.nfs_rules.specs.operations.Close.{closing, own, unless_held}
use Rattle.nfs_rules.proofs.Closing.{closing_ruled}
use Rattle.nfs_rules.proofs.Sendable.{open_judged, open_refusal, refused_ruled}
use Rattle.nfs_rules.proofs.operations.close.rule.Goals as goal
use Rattle.nfs_share.specs.AllOpens.{OpenAt}
use Rattle.nfs_share.specs.OpenFound.{open_seen}
use Rattle.nfs_state.specs.Room.{state_of}
use Rattle.nfs_xdr.specs.declared.op.Op.TheVariants as ops

pub returns-in-Err : goal.returns-in-Err
returns-in-Err c = λ journal request passage policy is.
    let args = c.args.args.now in
    let state = state_of c.args.tables.now in
    let demand = confirmed_open c.args.node in
    let found : Err c.in-Err.refusal ≡ (verdict demand journal.epoch state args.stateid >>= as_open) =
    open_judged c.confirmed_open.result demand journal.epoch state args.stateid (target_seen c.args.target) (Err c.in-Err.refusal) c.confirmed_open.ensures is c.in-Err.ensures in
    refused_ruled (own journal state args request c.args.node passage) state (ops.Close args) c.in-Err.refusal c.refusal.result c.refusal.ensures
    (open_refusal demand journal.epoch state args.stateid c.in-Err.refusal found)
    (ap (λ (f : Result OpenAt Refusal). Some (closing (f >>= unless_held journal.policy.close_locks state))) found)

pub returns-in-Ok : goal.returns-in-Ok
returns-in-Ok c = λ journal request passage policy is.
    let args = c.args.args.now in
    let state = state_of c.args.tables.now in
    let demand = confirmed_open c.args.node in
    let at = open_seen c.in-Ok.found in
    let found : Ok at ≡ (verdict demand journal.epoch state args.stateid >>= as_open) =
    open_judged c.confirmed_open.result demand journal.epoch state args.stateid (target_seen c.args.target) (Ok at) c.confirmed_open.ensures is c.in-Ok.ensures in
    closing_ruled journal state args request c.args.node passage at c.closing.result
    (c.closing.ensures ∙ ap (λ p. closing (unless_held p state at)) (sym policy)) found
