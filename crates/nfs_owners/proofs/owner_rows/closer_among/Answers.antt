use Rattle.std.proofs.Common.{◌∙◌, ℕ, Bool, List, ap, find, option_map}
use Rattle.nfs_owners.specs.Kept.{summary_closes}
use Rattle.nfs_owners.specs.declared.owner.Owner.{Owner}
use Rattle.nfs_owners.proofs.Leaving.{pairs_found}
use Rattle.nfs_owners.proofs.owner_rows.closer_among.Goals as goal

pub loop-owner-init : goal.loop-owner-init
loop-owner-init c =
    let test : Owner → Bool = λ o. summary_closes c.args.client c.args.number o.state.kept in
    record {
      can = tt;
      finite = tt;
      rest = ap (λ (ps : List (ℕ × Owner)). option_map {U = Owner} (λ p. p.1) (find (λ p. test p.1) ps)) (c.into_iter-owner-iterator.ensures.into_iter_gives ∙ c.iter-owner-items.ensures) ∙ pairs_found test c.args.rows.now.rows;
    }
