use Rattle.std.proofs.Common.{◌≡◌, Bool, filter, find, option_map}
use Rattle.nfs_rows.specs.Rows.{AnswersAs, is_from}
use Rattle.nfs_owners.specs.OwnerRows.{owners_in}
use Rattle.nfs_owners.specs.declared.owner.Owner.{Owner}
use Rattle.nfs_owners.proofs.owner_rows.found_from.Given as goal

-- the first of those that are left is the first of all
abbrev pub invariant-loop-owner : goal.invariant-loop-owner
invariant-loop-owner g l = record {
  can : (goal.iterator-loop-owner g).can_next l.owner-iterator;
  finite : (goal.iterator-loop-owner g).is_finite l.owner-iterator;
  rest : (p : Owner → Bool) → AnswersAs g.F.Fn l.test p
      → option_map {U = Owner} (λ x. x.1) (find (λ x. p x.1) l.owner-iterator) ≡ find p (owners_in (filter (is_from l.number) l.rows.rows));
}
