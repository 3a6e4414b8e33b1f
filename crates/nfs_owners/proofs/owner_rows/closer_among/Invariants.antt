use Rattle.std.proofs.Common.{◌≡◌, find, option_map}
use Rattle.nfs_owners.specs.Kept.{summary_closes}
use Rattle.nfs_owners.specs.OwnerRows.{owners_in}
use Rattle.nfs_owners.proofs.owner_rows.closer_among.Given as goal

-- the first of those that are left is the first of all
abbrev pub invariant-loop-owner : goal.invariant-loop-owner
invariant-loop-owner l = record {
  can : (goal.iterator-loop-owner).can_next l.owner-iterator;
  finite : (goal.iterator-loop-owner).is_finite l.owner-iterator;
  rest : option_map (λ p. p.1) (find (λ p. summary_closes l.client l.number p.1.state.kept) l.owner-iterator)
      ≡ find (λ o. summary_closes l.client l.number o.state.kept) (owners_in l.rows.rows);
}
