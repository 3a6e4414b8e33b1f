use Rattle.std.proofs.Common.{subst, take_all}
use Rattle.nfs_share.specs.KeptDelegations.{AreNotBefore}
use Rattle.nfs_share.proofs.FirstRecalls.{earlier_at}
use Rattle.nfs_share.proofs.delegation_table.first_recall_in.Goals as goal

pub loop-lent-init : goal.loop-lent-init
loop-lent-init c = record { recalls = tt }

pub loop-lent-preserved : goal.loop-lent-preserved
loop-lent-preserved c = record {
  recalls = earlier_at c.args.delegations.now c.loop-lent.lent-index c.lent-item.result c.loop-lent.first c.earlier-first.result
      c.loop-lent-test.true c.lent-item.is c.earlier-first.ensures c.loop-lent.invariant.recalls;
}

pub returns : goal.returns
returns c = subst (AreNotBefore c.loop-lent.first) (take_all c.loop-lent.lent-index c.args.delegations.now c.loop-lent-test.false) c.loop-lent.invariant.recalls
