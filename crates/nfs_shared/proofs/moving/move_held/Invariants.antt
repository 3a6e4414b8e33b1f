use Rattle.nfs_shared.specs.Held.{Moves}
use Rattle.nfs_shared.proofs.moving.move_held.Given as goal

abbrev pub invariant-loop : goal.invariant-loop
invariant-loop g l = Moves l.fn.held l.held
