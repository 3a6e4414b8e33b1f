use Rattle.std.proofs.Common.{subst, sym}
use Rattle.nfs_locks.specs.AllLocks.{IsAboveAll, locks_in}
use Rattle.nfs_state.proofs.tables.Tables.commit_first_lock.Goals as goal

pub begin-requires-clause-newest : goal.begin-requires-clause-newest
begin-requires-clause-newest c =
    subst (λ number. IsAboveAll number (locks_in c.args.self.now.locks)) (sym c.upcoming-number.ensures) c.requires.given.of_locks
