use Rattle.std.proofs.Common.{Some, refl, subst}
use Rattle.nfs_forms.specs.declared.answer.Answer.TheVariants.{Denied}
use Rattle.nfs_locks.specs.AllLocks.{locks_of}
use Rattle.nfs_locks.specs.Report.{IsReport}
use Rattle.nfs_locks.specs.ReportSeen.{report_seen}
use Rattle.nfs_ranges.specs.declared.mode.Mode.{Mode}
use Rattle.nfs_rules.specs.Locking.{denied_by}
use Rattle.nfs_rules.specs.operations.Lockt.{only}
use Rattle.nfs_rules.proofs.Sequencing.{on_err}
use Rattle.nfs_rules.proofs.operations.lockt.test.Goals as goal
use Rattle.nfs_state.specs.Room.{state_of}

pub returns-in_err-denied_by-in-Some-report-clause-memory : goal.returns-in_err-denied_by-in-Some-report-clause-memory
returns-in_err-denied_by-in-Some-report-clause-memory c =
    let report = report_seen c.in-Some-report.report in
    let meets : Mode → Type 0 = λ mode. IsReport (locks_of c.args.node (state_of c.args.tables.now).locks) c.args.args.now.owner c.in-Some.range mode (Some report) in
    on_err c.from_residual.result
    (only (Denied (denied_by report)), (Some c.in-Some.range, c.in-Some.ensures, (Some report, subst meets c.mode_of-mode.ensures c.in-Some-report.ensures, refl)))
