-- What a lookup of a lock state returns, as the definitions speak of it.
use Rattle.nfs_locks.specs.AllLocks.{LockAt}
use Rattle.nfs_locks.specs.StoredLocks as stored
use Rattle.nfs_locks.specs.declared.locks.LockFound.{LockFound}

abbrev pub lock_found_seen : LockFound → LockAt
lock_found_seen found = record { node = found.node; state = stored.lock_seen found.state.now }
