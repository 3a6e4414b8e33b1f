use Rattle.std.proofs.Common.{ap, ◌∙◌}
use Rattle.nfs_shared.specs.declared.recall_queue.Log.{Log}
use Rattle.nfs_shared.proofs.RecallOrders.{forks, hands_on, merges}
use Rattle.nfs_shared.proofs.recall_queue.RecallQueue.meet.Goals as goal

pub another-taker-requires-clause-rule : goal.another-taker-requires-clause-rule
another-taker-requires-clause-rule c = hands_on _ _ c.take.invariant.1

pub absorb-requires-clause-rule : goal.absorb-requires-clause-rule
absorb-requires-clause-rule c =
    merges _ _ _ _ (ap (λ (v : Log). v.puts) c.put.invariant.1)
    (ap (λ (v : Log). v.takes) c.another-taker.ensures.rule.1 ∙ ap (λ (v : Log). v.takes) c.take.invariant.1)

pub another-requires-clause-rule : goal.another-requires-clause-rule
another-requires-clause-rule c =
    let both = c.learn_as.ensures.queue.1 ∙ c.absorb.ensures.rule in
    forks _ _ (ap (λ (v : Log). v.puts) both) (ap (λ (v : Log). v.takes) both)
