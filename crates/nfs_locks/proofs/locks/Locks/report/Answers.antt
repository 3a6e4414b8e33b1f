use Rattle.std.proofs.Common.{◌∙◌, ap, option_map, subst, sym}
use Rattle.std.proofs.lemmas.Bool.{ltb-true}
use Rattle.nfs_locks.specs.AllLocks.{locks_in, locks_of}
use Rattle.nfs_locks.specs.Report.{IsReport}
use Rattle.nfs_locks.specs.ReportSeen.{report_seen}
use Rattle.nfs_locks.proofs.Files.{locks_at}
use Rattle.nfs_locks.proofs.Indexed.{in_view}
use Rattle.nfs_locks.proofs.locks.Locks.report.Goals as goal

pub returns : goal.returns
returns c =
    let file = c.in_ok-get.field-0.now in
    subst (λ locks. IsReport locks c.args.owner.now c.args.range c.args.mode (option_map report_seen c.report.result))
    (sym (locks_at c.deref.result.now c.args.node file (ltb-true _ _ (sym c.in_ok-get.ensures.lookup.0)) c.in_ok-get.ensures.lookup.1)
    ∙ ap (locks_of c.args.node) (ap locks_in c.deref.ensures.value ∙ in_view c.self.inside.nodes.room c.self.inside.files.items c.args.self.now c.self.view_is))
    c.report.ensures
