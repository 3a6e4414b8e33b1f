use Rattle.std.proofs.Common.{◌∙◌, ap, filter, map, subst, sym}
use Rattle.std.specs.List.{AllByRecursion}
use Rattle.nfs_rows.specs.Rows.{RoomyRows, is_from, pair_of}
use Rattle.nfs_rows.specs.Places.{HasRow, is_from as is_place_from, kept, rows_at}
use Rattle.nfs_rows.proofs.Each.{all_filter}
use Rattle.nfs_rows.proofs.Starting.{kept_from, rows_from}
use Rattle.nfs_rows.proofs.rows.Rows.iter_from.Goals as goal

pub invariant_of-result : goal.invariant_of-result
invariant_of-result g c =
    let slab = c.self.inside.slab in
    let ps = c.self.inside.places.items in
    let from = is_place_from c.args.number in
    subst (AllByRecursion (HasRow slab)) (sym (ap kept (c.places_from.ensures ∙ ap (filter from) c.deref.ensures.value) ∙ kept_from c.args.number ps))
    (all_filter (HasRow slab) from (kept ps) c.self.invariant.0.there)

pub returns : goal.returns
returns g c =
    let slab = c.self.inside.slab in
    let ps = c.self.inside.places.items in
    ap (λ qs. map pair_of (rows_at slab qs)) (c.places_from.ensures ∙ ap (filter (is_place_from c.args.number)) c.deref.ensures.value)
    ∙ ap (map pair_of) (rows_from c.args.number slab ps)
    ∙ ap (λ (r : RoomyRows g.row.T.Denot). map pair_of (filter (is_from c.args.number) r.rows)) c.self.view_is
