use Rattle.std.proofs.Common.{ap}
use Rattle.nfs_shared.specs.declared.recall_queue.Log.{Log}
use Rattle.nfs_shared.proofs.RecallOrders.{begins, forks}
use Rattle.nfs_shared.proofs.recall_queue.RecallQueue.new.Goals as goal

pub ruled-requires-clause-rule : goal.ruled-requires-clause-rule
ruled-requires-clause-rule c = begins

pub another-take-requires-clause-rule : goal.another-take-requires-clause-rule
another-take-requires-clause-rule c = forks _ _ (ap (λ (v : Log). v.puts) c.in_ok-line.ensures.3) (ap (λ (v : Log). v.takes) c.in_ok-line.ensures.3)
