use Rattle.std.proofs.Common.{ap, arith}
use Rattle.nfs_locks.specs.AllLocks.{lock_count, locks_in}
use Rattle.nfs_locks.proofs.Indexed.{counted, in_view}
use Rattle.nfs_locks.proofs.locks.Locks.places_left.Goals as goal

pub returns : goal.returns
returns c =
    omega (arith, c.saturating_sub.ensures, c.self.invariant.0.counted, counted (locks_in c.self.inside.files.items), ap lock_count (in_view c.self.inside.nodes.room c.self.inside.files.items c.args.self.now c.self.view_is))
