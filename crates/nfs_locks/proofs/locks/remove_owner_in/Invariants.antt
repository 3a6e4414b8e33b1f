use Rattle.std.proofs.Common.{◌≡◌, ◌++◌, drop, map, take}
use Rattle.nfs_locks.specs.Locks.{is_lock_of, without}
use Rattle.nfs_locks.specs.LockNodes.{names_of}
use Rattle.nfs_locks.proofs.Files.{seen_in}
use Rattle.nfs_locks.proofs.locks.remove_owner_in.Given as goal

-- the files visited so far are changed, and no key is
abbrev pub invariant-loop-file : goal.invariant-loop-file
invariant-loop-file l = record {
  seen : seen_in l.files
      ≡ map (without (is_lock_of l.owner)) (take l.file-index (seen_in l.initial.files)) ++ drop l.file-index (seen_in l.initial.files);
  names : names_of l.files ≡ names_of l.initial.files;
}
