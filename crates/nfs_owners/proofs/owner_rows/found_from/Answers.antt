use Rattle.std.proofs.Common.{◌∙◌, ℕ, List, ap, filter, find, option_map}
use Rattle.nfs_rows.specs.Rows.{is_from}
use Rattle.nfs_owners.specs.declared.owner.Owner.{Owner}
use Rattle.nfs_owners.proofs.Leaving.{pairs_found}
use Rattle.nfs_owners.proofs.owner_rows.found_from.Goals as goal

pub loop-owner-init : goal.loop-owner-init
loop-owner-init g c = record {
  can = tt;
  finite = tt;
  rest = λ p answers.
      ap (λ (ps : List (ℕ × Owner)). option_map {U = Owner} (λ x. x.1) (find (λ x. p x.1) ps)) (c.into_iter-owner-iterator.ensures.into_iter_gives ∙ c.iter_from-owner-items.ensures)
      ∙ pairs_found p (filter (is_from c.args.number) c.args.rows.now.rows);
}
