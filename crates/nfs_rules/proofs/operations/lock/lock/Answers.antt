use Rattle.std.proofs.Common.{◌≡◌, Some, None, ap, refl, true}
use Rattle.nfs_forms.specs.declared.answer.Answer.TheVariants.{Denied}
use Rattle.nfs_locks.specs.ReportSeen.{report_seen}
use Rattle.nfs_rules.specs.Finding.{locking_seen}
use Rattle.nfs_rules.specs.Locking.{denied_by}
use Rattle.nfs_rules.specs.operations.Lock.{IsAllowed, grant}
use Rattle.nfs_rules.proofs.Sendable.{denied_sendable}
use Rattle.nfs_rules.proofs.Sequenced.{rules_fail, rules_onto}
use Rattle.nfs_rules.proofs.operations.lock.lock.Goals as goal
use Rattle.nfs_state.specs.Room.{state_of}
use Rattle.nfs_state.specs.declared.change.Change.TheVariants.{Nothing}
use Rattle.nfs_state.specs.declared.shortage.Shortage.TheVariants.{Memory}
use Rattle.nfs_xdr.specs.declared.op.Op.TheVariants as ops
use Rattle.nfs_xdr.specs.declared.op_result.OpResult.TheVariants as results

pub returns-in_ok-denied_by-in-Some : goal.returns-in_ok-denied_by-in-Some
returns-in_ok-denied_by-in-Some c = λ args.
    let denied = c.in_ok-denied_by-in-Some in (
      (
        Some (report_seen c.in-Some.report),
        c.in-Some.ensures,
        ap (λ d. Some (record { answer = results.Lock (Denied d); change = Nothing })) denied.ensures.denied,
      ),
      denied_sendable args denied.field-0 denied.ensures.short,
      tt,
    )

pub returns-in_err-denied_by-in-Some : goal.returns-in_err-denied_by-in-Some
returns-in_err-denied_by-in-Some c = λ args.
    let state = state_of c.args.tables.now in
    let report = report_seen c.in-Some.report in
    rules_fail (IsAllowed true state (locking_seen c.args.locking) c.args.range) state (ops.Lock args) Memory c.from_residual.result c.from_residual.ensures.0 c.from_residual.ensures.1
    (record { answer = results.Lock (Denied (denied_by report)); change = Nothing }, (Some report, c.in-Some.ensures, refl))

pub returns-in-None : goal.returns-in-None
returns-in-None c = λ args.
    let state = state_of c.args.tables.now in
    let l = locking_seen c.args.locking in
    rules_onto (λ r. r ≡ grant state l c.args.range l.state) (IsAllowed true state l c.args.range) state (ops.Lock args) c.grant.result
    (λ r same. (None, c.in-None.ensures, same))
    (c.grant.ensures args)
