use Rattle.std.proofs.Common.{rules}
use Rattle.std.specs.Prelude.{nat_lt}
use Rattle.std.proofs.lemmas.List.Sorted.{IsPartitionPoint-from_clause, IsPartitionedBy-ltb}
use Rattle.nfs_rows.proofs.Marks.{non_decreasing}
use Rattle.nfs_rows.proofs.place.first_from.Goals as goal

pub returns-clause-point : goal.returns-clause-point
returns-clause-point c =
    IsPartitionPoint-from_clause (λ p. nat_lt p.number c.args.number) c.args.places.now c.partition_point.result c.partition_point.ensures.partitioned
    (IsPartitionedBy-ltb (λ p. p.number) c.args.places.now c.args.number (non_decreasing c.args.places.now c.requires)) (λ a r f' k. search rules)
