use Rattle.std.proofs.Common.{sym, ◌∙◌, ap, Some, None, if◌then◌else◌}
use Rattle.std.proofs.lemmas.Bool.{le-leb, lt-leb}
use Rattle.nfs_ranges.specs.Merged.{in_order}
use Rattle.nfs_ranges.proofs.Ended.{find_at}
use Rattle.nfs_ranges.proofs.runs.Runs.find.Goals as goal

pub returns-in_err-run : goal.returns-in_err-run
returns-in_err-run c = c.from_residual.ensures ∙ sym (find_at c.args.byte (in_order c.args.self.now) c.count_ended.result c.get.result None c.requires.merged
    c.count_ended.ensures c.get.ensures c.in_err-run.was)

pub returns-then-run-byte : goal.returns-then-run-byte
returns-then-run-byte c =
    sym (find_at c.args.byte (in_order c.args.self.now) c.count_ended.result c.get.result (Some c.in_ok-run.run')
    c.requires.merged c.count_ended.ensures c.get.ensures c.in_ok-run.was
    ∙ ap (λ t. if t then Some c.in_ok-run.run' else None)
    (le-leb c.in_ok-run.run'.range.first c.args.byte c.if-run-byte.true))

pub returns-else-run-byte : goal.returns-else-run-byte
returns-else-run-byte c =
    sym (find_at c.args.byte (in_order c.args.self.now) c.count_ended.result c.get.result (Some c.in_ok-run.run')
    c.requires.merged c.count_ended.ensures c.get.ensures c.in_ok-run.was
    ∙ ap (λ t. if t then Some c.in_ok-run.run' else None)
    (lt-leb c.in_ok-run.run'.range.first c.args.byte c.if-run-byte.false))
