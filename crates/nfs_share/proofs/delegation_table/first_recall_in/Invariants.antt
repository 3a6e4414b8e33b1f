use Rattle.std.proofs.Common.{take}
use Rattle.nfs_share.specs.KeptDelegations.{AreNotBefore}
use Rattle.nfs_share.proofs.delegation_table.first_recall_in.Given as goal

-- none of the delegations visited so far was called back before this moment
abbrev pub invariant-loop-lent : goal.invariant-loop-lent
invariant-loop-lent l = record {
  recalls : AreNotBefore l.first (take l.lent-index l.delegations);
}
