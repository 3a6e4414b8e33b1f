use Rattle.std.proofs.Common.{◌≡◌, ◌-◌, drop}
use Rattle.nfs_share.specs.AllOpens.{open_count, opens_in}
use Rattle.nfs_share.proofs.opens.places_left.Given as goal

-- the places that the remaining files leave of those left are those that all files leave of the limit
abbrev pub invariant-loop-file : goal.invariant-loop-file
invariant-loop-file l =
    l.left - open_count (drop l.file-index (opens_in l.files)) ≡ l.limit - open_count (opens_in l.files)
