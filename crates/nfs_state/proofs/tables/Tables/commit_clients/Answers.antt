use Rattle.std.proofs.Common.{subst, sym}
use Rattle.nfs_state.specs.Kept.{Agrees}
use Rattle.nfs_state.specs.declared.tables.Tables.{Tables}
use Rattle.nfs_state.proofs.tables.Tables.commit_clients.Goals as goal
use Rattle.nfs_state.proofs.tables.Tables.commit_clients.Goals.{in-Replaces, in_default}

pub returns-clause-kept : goal.returns-clause-kept
returns-clause-kept c journal agrees =
    let before : Tables → Type 0 = λ t. Agrees journal t.owners.owners in
    elim c.match-change.branch [
      | in-Replaces w ↦ subst before (sym w.self-is) (w.leave.ensures.kept journal agrees)
      | in_default w ↦ subst before (sym w.self-is) agrees
    ]
