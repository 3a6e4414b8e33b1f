use Rattle.nfs_server.specs.Serves.{served_by}
use Rattle.nfs_threads.specs.Links.{tcp}
use Rattle.nfs_threads.specs.Run.{receipts_by_worker}
use Rattle.nfs_threads.proofs.Renewals.{each_of_journal}
use Rattle.nfs_threads.proofs.renewal_laws.renewals_are_of_clients.Goals as goal

pub returns : goal.returns
returns g c links tree count old end run =
    let borne = run.borne_out in
    (borne.0, borne.1, each_of_journal (tcp (served_by old.journal)) tree links run.words borne.0 end.shifts.items (receipts_by_worker end) run.seats run.each borne.2)
