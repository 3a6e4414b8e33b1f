use Rattle.std.proofs.Common.{◌≡◌, ℕ, ◌<◌, get_or}
use Rattle.nfs_operations.specs.declared.readdir.DirectoryEntry.{DirectoryEntry}
use Rattle.nfs_operations.proofs.readdir.Listing.is_same.Given as goal

-- the entries so far are the same
abbrev pub invariant-loop-i : goal.invariant-loop-i
invariant-loop-i l = (k : ℕ) (d : DirectoryEntry) → k < l.i → get_or l.these k d ≡ get_or l.those k d
