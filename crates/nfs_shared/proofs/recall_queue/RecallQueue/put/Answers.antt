use Rattle.nfs_shared.proofs.RecallOrders.{puts, covers}
use Rattle.nfs_shared.proofs.recall_queue.RecallQueue.put.Goals as goal

pub push_as-requires-clause-rule : goal.push_as-requires-clause-rule
push_as-requires-clause-rule g c = (puts _ _ _ _ c.pass.invariant.1, covers _ _ c.pass.invariant.1)
