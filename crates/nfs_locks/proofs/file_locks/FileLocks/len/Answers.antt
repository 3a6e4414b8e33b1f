use Rattle.std.proofs.Common.{◌∙◌, ap, length, sym}
use Rattle.std.proofs.lemmas.List.{length-map}
use Rattle.nfs_locks.specs.StoredLocks.{StoredLocks}
use Rattle.nfs_locks.specs.declared.lock_state.LockState.{LockState}
use Rattle.nfs_locks.proofs.file_locks.FileLocks.len.Goals as goal
use Rattle.nfs_rows.specs.Rows.{Row}

pub returns : goal.returns
returns c =
    c.len.ensures.len
    ∙ sym (length-map c.self.inside.states.rows (λ (r : Row LockState). r.value))
    ∙ ap (λ (f : StoredLocks). length f.states) c.self.view_is
