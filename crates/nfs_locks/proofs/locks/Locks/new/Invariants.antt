use Rattle.std.proofs.Common.{◌≡◌, ◌≤◌, [], length, replicate}
use Rattle.std.specs.Prelude.{vec_capacity}
use Rattle.nfs_locks.specs.AllLocks.{stored_in}
use Rattle.nfs_locks.specs.LockNodes.{names_of}
use Rattle.nfs_locks.proofs.locks.Locks.new.Given as goal

-- the files so far have no lock states, and there is room for all
abbrev pub invariant-loop : goal.invariant-loop
invariant-loop l = record {
  locks : stored_in l.files.items ≡ replicate l.counter [];
  names : names_of l.files.items ≡ replicate l.counter l.names;
  counted : length l.files.items ≡ l.counter;
  room : l.nodes ≤ vec_capacity l.files;
}
