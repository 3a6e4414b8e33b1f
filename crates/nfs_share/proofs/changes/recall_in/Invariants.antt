use Rattle.std.proofs.Common.{◌≡◌, ◌++◌, drop, take}
use Rattle.nfs_share.specs.Delegations.{with_recalls}
use Rattle.nfs_share.proofs.changes.recall_in.Given as goal

-- the delegations visited so far are called back
abbrev pub invariant-loop-lent : goal.invariant-loop-lent
invariant-loop-lent l = record {
  delegations : l.delegations
      ≡ with_recalls l.file_use l.moment (take l.lent-index l.initial.delegations) ++ drop l.lent-index l.initial.delegations;
}
