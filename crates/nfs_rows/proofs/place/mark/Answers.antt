use Rattle.std.proofs.Common.{◌∙◌, ap, set, true}
use Rattle.nfs_rows.specs.declared.place.Place.{Place}
use Rattle.nfs_rows.proofs.Marks.{set_marked}
use Rattle.nfs_rows.proofs.place.mark.Goals as goal

pub returns-clause-marked : goal.returns-clause-marked
returns-clause-marked c =
    let ps = c.args.places.now.items in
    ap (λ (p : Place). set ps c.args.at (record p { gone = true })) c.index_mut.ensures.value ∙ set_marked ps c.args.at c.index_mut.result.now c.requires.0
