use Rattle.std.proofs.Common.{◌∙◌, arith, sym}
use Rattle.nfs_share.specs.Delegations.{conflicts, with_recall}
use Rattle.nfs_share.proofs.OpensLaws.{changes_one_more, leaves_one_more}
use Rattle.nfs_share.proofs.changes.recall_in.Goals as goal
use Rattle.nfs_share.proofs.changes.recall_in.Goals.{then-conflicts, else-conflicts}

pub loop-lent-preserved : goal.loop-lent-preserved
loop-lent-preserved c = record {
  delegations =
      elim c.if-conflicts.branch [
        | then-conflicts w ↦
            w.delegations-is
            ∙ changes_one_more (conflicts c.args.file_use) (with_recall c.args.moment) c.args.delegations.now c.loop-lent.delegations c.loop-lent.lent-index c.lent-item.result w.recall.new.self
            (omega arith) (omega arith) c.loop-lent.invariant.delegations (sym c.conflicts.ensures ∙ w.if-conflicts.true) w.recall.ensures
        | else-conflicts w ↦
            w.delegations-is
            ∙ leaves_one_more (conflicts c.args.file_use) (with_recall c.args.moment) c.args.delegations.now c.loop-lent.delegations c.loop-lent.lent-index c.lent-item.result
            (omega arith) (omega arith) c.loop-lent.invariant.delegations (sym c.conflicts.ensures ∙ w.if-conflicts.false)
      ];
}
