use Rattle.std.proofs.Common.{◌∙◌, ap}
use Rattle.std.specs.Prelude.{is_some}
use Rattle.nfs_locks.specs.Locks.{is_stateid_of}
use Rattle.nfs_locks.specs.StoredLocks.{lock_seen}
use Rattle.nfs_locks.proofs.Alone.{any_found, some_copied}
use Rattle.nfs_locks.proofs.file_locks.FileLocks.names.Goals as goal

pub returns : goal.returns
returns c =
    c.is_some.ensures
    ∙ some_copied c.named_by.result
    ∙ ap is_some c.named_by.ensures
    ∙ any_found (λ l. is_stateid_of c.args.stateid (lock_seen l)) c.args.self.now.states
