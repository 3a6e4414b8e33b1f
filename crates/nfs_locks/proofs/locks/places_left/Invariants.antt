use Rattle.std.proofs.Common.{◌≡◌, ◌-◌, drop}
use Rattle.nfs_locks.specs.AllLocks.{lock_count}
use Rattle.nfs_locks.proofs.Files.{seen_in}
use Rattle.nfs_locks.proofs.locks.places_left.Given as goal

-- the places that the remaining files leave of those left are those that all files leave of the limit
abbrev pub invariant-loop-file : goal.invariant-loop-file
invariant-loop-file l =
    l.left - lock_count (drop l.file-index (seen_in l.files)) ≡ l.limit - lock_count (seen_in l.files)
