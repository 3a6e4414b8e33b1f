use Rattle.std.proofs.Common.{rules}
use Rattle.std.specs.Prelude.{nat_lt}
use Rattle.std.proofs.lemmas.List.Sorted.{IsPartitionPoint-from_clause, IsPartitionedBy-ltb}
use Rattle.nfs_share.proofs.LentPlaces.{numbers_rise}
use Rattle.nfs_share.proofs.delegation_table.place_from.Goals as goal

pub returns-clause-point : goal.returns-clause-point
returns-clause-point c =
    IsPartitionPoint-from_clause (λ d. nat_lt d.number c.args.number) c.args.delegations.now c.partition_point.result c.partition_point.ensures.partitioned
    (IsPartitionedBy-ltb (λ d. d.number) c.args.delegations.now c.args.number (numbers_rise c.args.delegations.now c.requires)) (λ a r f' k. search rules)
