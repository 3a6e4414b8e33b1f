use Rattle.std.proofs.Common.{◌≡◌, length}
use Rattle.nfs_locks.specs.KeptLocks.{AreOfClients}
use Rattle.nfs_locks.specs.Locks.{is_under}
use Rattle.nfs_locks.specs.StoredLocks.{lock_seen}
use Rattle.nfs_locks.proofs.removals.remove_under.Given as goal
use Rattle.nfs_rows.specs.Rows.{without}

-- those that stay in the end are those that stay now
abbrev pub invariant-removing : goal.invariant-removing
invariant-removing l = record {
  stay : without (λ r. is_under l.open_number (lock_seen r.value)) l.states.rows
      ≡ without (λ r. is_under l.open_number (lock_seen r.value)) l.initial.states.rows;
  clients : AreOfClients l.states.rows;
  room : l.states.room ≡ l.initial.states.room;
}

abbrev pub decreases-removing : goal.decreases-removing
decreases-removing l = length l.states.rows
