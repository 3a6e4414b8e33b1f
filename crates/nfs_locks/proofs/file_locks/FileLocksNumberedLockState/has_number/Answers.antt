use Rattle.std.proofs.Common.{◌∙◌, ap}
use Rattle.std.specs.Prelude.{is_some}
use Rattle.nfs_locks.specs.Locks.{is_numbered}
use Rattle.nfs_locks.specs.StoredLocks.{lock_seen}
use Rattle.nfs_locks.proofs.Alone.{any_found, some_copied}
use Rattle.nfs_locks.proofs.Elements.{any_seen}
use Rattle.nfs_locks.proofs.file_locks.FileLocksNumberedLockState.has_number.Goals as goal

pub returns : goal.returns
returns c =
    c.is_some.ensures
    ∙ some_copied c.numbered.result
    ∙ ap is_some c.numbered.ensures.found
    ∙ any_found (λ l. is_numbered c.args.number (lock_seen l)) c.args.self.now.states
    ∙ any_seen lock_seen (is_numbered c.args.number) c.args.self.now.states
