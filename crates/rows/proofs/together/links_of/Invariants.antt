use Rattle.std.proofs.Common.{◌≡◌, ◌++◌}
use Rattle.std.specs.Vec.Iter.{into_iter_items}
use Rattle.nfs_threads.specs.Worker.{seats_of}
use Rattle.rows.proofs.together.links_of.Given as goal

abbrev pub invariant-loop-connection : goal.invariant-loop-connection
invariant-loop-connection g l = into_iter_items l.initial.left ≡ seats_of l.links.items ++ into_iter_items l.left
