use Rattle.std.proofs.Common.{◌≡◌, refl, Option, Ok, Err, Some, subst}
use Rattle.std.specs.Prelude.{Result}
use Rattle.nfs_forms.specs.declared.status.Refusal.{Refusal}
use Rattle.nfs_locks.specs.AllLocks.{LockAt}
use Rattle.nfs_locks.specs.LockFound.{lock_found_seen}
use Rattle.nfs_rules.specs.Finding.{target_seen}
use Rattle.nfs_rules.specs.Refusing.{◌>>=◌}
use Rattle.nfs_rules.specs.Stateids.{as_lock, lock_state, verdict}
use Rattle.nfs_rules.specs.declared.ruling.Ruling.{Ruling}
use Rattle.nfs_rules.specs.operations.Locku.{IsUnlock, own, refusal_of, unlocking}
use Rattle.nfs_rules.proofs.Sendable.{lock_judged, lock_refusal, refused_ruled}
use Rattle.nfs_rules.proofs.Sequenced.{rules_onto}
use Rattle.nfs_rules.proofs.operations.locku.rule.Goals as goal
use Rattle.nfs_state.specs.Room.{state_of}
use Rattle.nfs_xdr.specs.declared.op.Op.TheVariants as ops

pub returns-in-Err : goal.returns-in-Err
returns-in-Err c = λ journal request passage is.
    let args = c.args.args.now in
    let state = state_of c.args.tables.now in
    let demand = lock_state c.args.node in
    let found : Err c.in-Err.refusal ≡ (verdict demand journal.epoch state args.stateid >>= as_lock) =
    lock_judged c.lock_state.result demand journal.epoch state args.stateid (target_seen c.args.target) (Err c.in-Err.refusal) c.lock_state.ensures is c.in-Err.ensures in
    let Q : Result LockAt Refusal → Type 0 = λ f. IsUnlock state args f (Some (refusal_of c.in-Err.refusal)) in
    refused_ruled (own journal state args request c.args.node passage) state (ops.Locku args) c.in-Err.refusal c.refusal.result c.refusal.ensures
    (lock_refusal demand journal.epoch state args.stateid c.in-Err.refusal found)
    (subst Q found refl)

pub returns-in-Some : goal.returns-in-Some
returns-in-Some c = λ journal request passage is.
    let args = c.args.args.now in
    let state = state_of c.args.tables.now in
    let at = lock_found_seen c.in-Ok.found in
    let demand = lock_state c.args.node in
    let found : Ok at ≡ (verdict demand journal.epoch state args.stateid >>= as_lock) =
    lock_judged c.lock_state.result demand journal.epoch state args.stateid (target_seen c.args.target) (Ok at) c.lock_state.ensures is c.in-Ok.ensures in
    let P : Option Ruling → Type 0 = λ r. r ≡ unlocking state at (Some c.in-Some.range) in
    let Q : Option Ruling → Type 0 = λ r. own journal state args request c.args.node passage r in
    rules_onto P Q state (ops.Locku args) c.unlock.result
    (λ r same. subst (λ v. IsUnlock state args v r) found (Some c.in-Some.range, c.in-Some.ensures, same))
    (c.unlock.ensures args)
