use Rattle.std.proofs.Common.{◌∙◌, None, Some, ap, find, option_copied, subst, sym}
use Rattle.nfs_rows.specs.Rows.{RoomyRows, is_numbered, value_in}
use Rattle.nfs_rows.specs.Places.{IsPlaceOf}
use Rattle.nfs_rows.proofs.Shown.{none_found, one_found}
use Rattle.nfs_rows.proofs.rows.Rows.find.Goals as goal

pub returns-in_err-at : goal.returns-in_err-at
returns-in_err-at g c =
    let ps = c.self.inside.places.items in
    let others : IsPlaceOf c.args.number ps None = subst (λ xs. IsPlaceOf c.args.number xs None) c.deref.ensures.value c.in_err-at.ensures in
    ap option_copied c.from_residual.ensures
    ∙ sym (ap value_in (none_found c.self.inside.slab c.args.number ps others))
    ∙ ap (λ (r : RoomyRows g.row.T.Denot). value_in (find (is_numbered c.args.number) r.rows)) c.self.view_is

pub returns : goal.returns
returns g c =
    let ps = c.self.inside.places.items in
    let slab = c.self.inside.slab in
    let at = c.in_ok-at.at in
    let found : IsPlaceOf c.args.number ps (Some at) = subst (λ xs. IsPlaceOf c.args.number xs (Some at)) c.deref.ensures.value c.in_ok-at.ensures in
    c.get.ensures
    ∙ sym (one_found slab c.args.number ps at c.index.result.now c.self.invariant.0.rise c.self.invariant.0.there found c.index.ensures)
    ∙ ap (λ (r : RoomyRows g.row.T.Denot). value_in (find (is_numbered c.args.number) r.rows)) c.self.view_is
