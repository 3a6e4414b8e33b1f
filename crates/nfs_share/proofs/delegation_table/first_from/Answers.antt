use Rattle.std.proofs.Common.{◌∙◌}
use Rattle.nfs_share.proofs.LentPlaces.{at_point, looked_up}
use Rattle.nfs_share.proofs.delegation_table.first_from.Goals as goal

pub returns : goal.returns
returns c =
    looked_up c.get.result c.args.delegations.now c.place_from-at.result c.get.ensures.lookup.0 c.get.ensures.lookup.1
    ∙ at_point c.args.number c.args.delegations.now c.place_from-at.result c.place_from-at.ensures.bound c.place_from-at.ensures.point
