use Rattle.std.proofs.Common.{◌∙◌, ◌==◌, ap, length, sym}
use Rattle.nfs_rows.specs.Rows.{RoomyRows}
use Rattle.nfs_rows.specs.Places.{kept}
use Rattle.nfs_rows.proofs.Shown.{length_rows}
use Rattle.nfs_rows.proofs.rows.Rows.is_empty.Goals as goal

pub returns : goal.returns
returns g c =
    let ps = c.self.inside.places.items in
    let are = c.self.invariant.0 in
    c.is_empty.ensures ∙ ap (λ n. n == 0) (are.all ∙ sym (length_rows c.self.inside.slab (kept ps) are.there) ∙ ap (λ (r : RoomyRows g.row.T.Denot). length r.rows) c.self.view_is)
