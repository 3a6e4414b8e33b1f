use Rattle.std.proofs.Common.{◌∙◌, ap, length, sym, subst}
use Rattle.nfs_rows.specs.Rows.{RoomyRows, StandInOrder}
use Rattle.nfs_rows.specs.Places.{kept}
use Rattle.nfs_rows.proofs.Marks.{rise_kept}
use Rattle.nfs_rows.proofs.Shown.{length_rows, order_rows}
use Rattle.nfs_rows.proofs.rows.Rows.len.Goals as goal

pub returns-clause-len : goal.returns-clause-len
returns-clause-len g c =
    let ps = c.self.inside.places.items in
    let are = c.self.invariant.0 in
    c.len.ensures ∙ are.all ∙ sym (length_rows c.self.inside.slab (kept ps) are.there) ∙ ap (λ (r : RoomyRows g.row.T.Denot). length r.rows) c.self.view_is

pub returns-clause-order : goal.returns-clause-order
returns-clause-order g c =
    let ps = c.self.inside.places.items in
    subst (λ (r : RoomyRows g.row.T.Denot). StandInOrder r.rows) c.self.view_is (order_rows c.self.inside.slab (kept ps) (rise_kept ps c.self.invariant.0.rise))
