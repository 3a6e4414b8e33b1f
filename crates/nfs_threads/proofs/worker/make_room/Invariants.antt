use Rattle.std.proofs.Common.{◌≡◌}
use Rattle.nfs_threads.proofs.worker.make_room.Given as goal

-- nothing but room and buffers was made
abbrev pub invariant-loop : goal.invariant-loop
invariant-loop g l = record {
  list : l.connections.items ≡ l.fn.connections.items;
  same : l.links ≡ l.fn.links;
}
