use Rattle.std.proofs.Common.{◌≡◌, ◌-◌, drop}
use Rattle.nfs_share.specs.AllOpens.{delegation_count, delegations_in}
use Rattle.nfs_share.proofs.opens.lending_places_left.Given as goal

-- the places that the remaining files leave of those left are those that all files leave of the limit
abbrev pub invariant-loop-file : goal.invariant-loop-file
invariant-loop-file l =
    l.left - delegation_count (drop l.file-index (delegations_in l.files)) ≡ l.limit - delegation_count (delegations_in l.files)
