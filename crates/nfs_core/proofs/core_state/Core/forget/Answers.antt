use Rattle.nfs_core.proofs.Trying.{none_before_first}
use Rattle.nfs_core.proofs.core_state.Core.forget.Goals as goal
use Rattle.nfs_state.specs.Stored.{meaning}

pub forget_from-requires : goal.forget_from-requires
forget_from-requires c = none_before_first c.args.self.now.journal (meaning c.args.self.now.stored) c.args.now
