use Rattle.std.proofs.Common.{◌≡◌, Err, refl, subst}
use Rattle.std.specs.Prelude.{Result}
use Rattle.nfs_forms.specs.declared.status.Refusal.{Refusal}
use Rattle.nfs_rules.specs.Finding.{target_seen}
use Rattle.nfs_rules.specs.Refusing.{◌>>=◌}
use Rattle.nfs_rules.specs.Stateids.{as_open, confirmed_open, verdict}
use Rattle.nfs_rules.specs.operations.OpenDowngrade.{IsFound, own, refusal_of}
use Rattle.nfs_rules.proofs.Sendable.{open_judged, open_refusal, refused_ruled}
use Rattle.nfs_rules.proofs.operations.open_downgrade.rule.Goals as goal
use Rattle.nfs_share.specs.AllOpens.{OpenAt}
use Rattle.nfs_state.specs.Room.{state_of}
use Rattle.nfs_xdr.specs.declared.op.Op.TheVariants as ops

pub returns-in-Err : goal.returns-in-Err
returns-in-Err c = λ journal request passage is.
    let args = c.args.args.now in
    let state = state_of c.args.tables.now in
    let demand = confirmed_open c.args.node in
    let found : Err c.in-Err.refusal ≡ (verdict demand journal.epoch state args.stateid >>= as_open) =
    open_judged c.confirmed_open-demand.result demand journal.epoch state args.stateid (target_seen c.args.target) (Err c.in-Err.refusal) c.confirmed_open-demand.ensures is c.in-Err.ensures in
    let Q : Result OpenAt Refusal → Type 0 = λ f. IsFound f args (refusal_of c.in-Err.refusal) in
    refused_ruled (own journal state args request c.args.node passage) state (ops.OpenDowngrade args) c.in-Err.refusal c.refusal.result c.refusal.ensures
    (open_refusal demand journal.epoch state args.stateid c.in-Err.refusal found)
    (subst Q found refl)
