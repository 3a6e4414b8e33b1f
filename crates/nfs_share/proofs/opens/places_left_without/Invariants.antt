use Rattle.std.proofs.Common.{◌≡◌, ◌-◌, drop, map}
use Rattle.nfs_share.specs.AllOpens.{open_count, opens_in}
use Rattle.nfs_share.specs.Opens.{is_of, without}
use Rattle.nfs_share.proofs.opens.places_left_without.Given as goal

-- the places that the remaining files leave of those left are those that all files leave of the limit
abbrev pub invariant-loop-file : goal.invariant-loop-file
invariant-loop-file l =
    l.left - open_count (drop l.file-index (map (without (is_of l.owner)) (opens_in l.files)))
    ≡ l.limit - open_count (map (without (is_of l.owner)) (opens_in l.files))
