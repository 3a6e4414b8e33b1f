use Rattle.std.proofs.Common.{◌≡◌, length}
use Rattle.nfs_locks.specs.Locks.{is_lock_of}
use Rattle.nfs_locks.specs.StoredLocks.{lock_seen}
use Rattle.nfs_locks.proofs.removals.remove_named.Given as goal
use Rattle.nfs_rows.specs.Rows.{is_named, without}

-- those that stay in the end are those that stay now
abbrev pub invariant-removing : goal.invariant-removing
invariant-removing l = record {
  stay : without (is_named l.hash (λ s. is_lock_of l.owner (lock_seen s))) l.states.rows
      ≡ without (is_named l.hash (λ s. is_lock_of l.owner (lock_seen s))) l.initial.states.rows;
  room : l.states.room ≡ l.initial.states.room;
}

abbrev pub decreases-removing : goal.decreases-removing
decreases-removing l = length l.states.rows
