use Rattle.std.proofs.Common.{◌≡◌, take}
use Rattle.std.specs.List.{filter_map}
use Rattle.nfs_core.specs.Recalls.{recall_for}
use Rattle.nfs_core.proofs.recalling.recalls_for.Given as goal

abbrev pub invariant-loop-lent : goal.invariant-loop-lent
invariant-loop-lent l =
    l.recalls.items ≡ filter_map (recall_for l.node l.file_use l.store.tables.clients.registry) (take l.lent-index l.lent-items)
