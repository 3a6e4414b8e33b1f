use Rattle.std.proofs.Common.{◌∙◌}
use Rattle.std.proofs.lemmas.List.{take_rest}
use Rattle.nfs_rows.proofs.Starting.{places_behind}
use Rattle.nfs_rows.proofs.place.places_from.Goals as goal

pub returns : goal.returns
returns c =
    take_rest c.args.places.now c.first_from.result
    ∙ places_behind c.args.number c.args.places.now c.first_from.result c.first_from.ensures.bound c.first_from.ensures.point
