use Rattle.std.proofs.Common.{◌≡◌, filter, take}
use Rattle.nfs_share.specs.Delegations.{conflicts}
use Rattle.nfs_share.proofs.delegation_table.DelegationTable.conflicting.Given as goal

-- those of the delegations visited so far that are in the way were found
abbrev pub invariant-loop-lent : goal.invariant-loop-lent
invariant-loop-lent l = record {
  found : l.found.items ≡ filter (conflicts l.file_use) (take l.lent-index l.lent-items);
}
