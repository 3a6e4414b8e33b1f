use Rattle.std.proofs.Common.{◌<◌, ◌∙◌, ap, length, subst}
use Rattle.nfs_owners.specs.Owners.{has_place, without_owner}
use Rattle.nfs_owners.specs.declared.owner.TheConstants.{OWNER_LIMIT}
use Rattle.nfs_rules.proofs.OpeningLaws.{owner_place}
use Rattle.nfs_rules.proofs.operations.open.has_owner_place.Goals as goal

pub returns : goal.returns
returns c =
    let owners = c.args.tables.now.owners.owners in
    owner_place c.args.passage c.args.owner.now c.args.tables.now c.has_place.result c.requires.passage
    (c.has_place.ensures.place ∙ ap (λ n. has_place n owners) c.of_open.ensures)
    (λ has. subst (λ n. length (without_owner n owners) < OWNER_LIMIT) c.of_open.ensures (c.has_place.ensures.left has))
