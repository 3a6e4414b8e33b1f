use Rattle.nfs_core.proofs.RecallsLeft.{Left-taken}
use Rattle.nfs_core.proofs.core_state.Core.take_recall.Goals as goal

pub invariant_of-self : goal.invariant_of-self
invariant_of-self c =
    let held = c.self.inside.held in (
      c.self.invariant.0,
      c.self.invariant.1,
      Left-taken held.store.journal.history held.recalls c.take.new.self c.take.result c.self.invariant.2 c.take.ensures.none c.take.ensures.first c.take.ensures.taken,
    )
