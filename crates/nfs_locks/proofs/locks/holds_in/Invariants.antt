use Rattle.std.proofs.Common.{◌≡◌, ◌&&◌, drop}
use Rattle.std.specs.List.{list_any}
use Rattle.nfs_locks.specs.Locks.{holds_bytes, is_lock_of}
use Rattle.nfs_locks.specs.StoredLocks.{StoredLocks, lock_seen}
use Rattle.nfs_locks.proofs.locks.holds_in.Given as goal

-- the owner holds a byte of a file if it holds one of the remaining files
abbrev pub invariant-loop-file : goal.invariant-loop-file
invariant-loop-file l =
    list_any (λ (f : StoredLocks). list_any (λ s. is_lock_of l.owner (lock_seen s) && holds_bytes (lock_seen s)) f.states) (drop l.file-index l.files)
    ≡ list_any (λ (f : StoredLocks). list_any (λ s. is_lock_of l.owner (lock_seen s) && holds_bytes (lock_seen s)) f.states) l.files
