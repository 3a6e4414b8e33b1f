use Rattle.std.proofs.Common.{◌≡◌, map, drop}
use Rattle.std.specs.List.{list_any}
use Rattle.std.specs.Str.{bytes_eq}
use Rattle.nfs_tree.proofs.document.is_among.Given as goal

abbrev pub invariant-loop-k : goal.invariant-loop-k
invariant-loop-k l =
    list_any (bytes_eq l.key) (map (λ k. k.now) (drop l.k-index l.keys)) ≡ list_any (bytes_eq l.key) (map (λ k. k.now) l.keys)
