use Rattle.std.proofs.Common.{◌≡◌, map}
use Rattle.nfs_tree.specs.Document.{has_only}
use Rattle.toml.specs.View.{members_view}
use Rattle.nfs_tree.proofs.document.has_only.Given as goal

abbrev pub invariant-loop-key : goal.invariant-loop-key
invariant-loop-key l =
    (goal.iterator-loop-key).can_next l.key-iterator × (goal.iterator-loop-key).is_finite l.key-iterator
    × (has_only (map (λ k. k.now) l.keys) (members_view l.key-iterator) ≡ has_only (map (λ k. k.now) l.keys) (members_view l.table.entries))
