use Rattle.std.proofs.Common.{◌∙◌, None, Some, ap, find, inr, subst, sym}
use Rattle.std.specs.Option.{option_copied_mut}
use Rattle.nfs_rows.specs.Rows.{RoomyRows, StandInOrder, is_numbered, value_in, with_value}
use Rattle.nfs_rows.specs.Places.{IsPlaceOf, kept}
use Rattle.nfs_rows.proofs.Lending.{same_end}
use Rattle.nfs_rows.proofs.Marks.{rise_kept}
use Rattle.nfs_rows.proofs.Shown.{few_changed, kept_changed, order_rows, none_found, one_found, room_changed, rows_changed}
use Rattle.nfs_rows.proofs.rows.Rows.find_mut.Goals as goal

pub returns-in_err-at : goal.returns-in_err-at
returns-in_err-at g c =
    let ps = c.self.inside.places.items in
    let others : IsPlaceOf c.args.number ps None = subst (λ xs. IsPlaceOf c.args.number xs None) c.deref.ensures.value c.in_err-at.ensures in (
      rw c.from_residual.ensures (ap inr c.self.view_is),
      record {
        lends = tt;
        value = ap option_copied_mut c.from_residual.ensures
            ∙ sym (ap value_in (none_found c.self.inside.slab c.args.number ps others))
            ∙ ap (λ (r : RoomyRows g.row.T.Denot). value_in (find (is_numbered c.args.number) r.rows)) c.self.view_is;
        order = subst (λ (r : RoomyRows g.row.T.Denot). StandInOrder r.rows) c.self.view_is (order_rows c.self.inside.slab (kept c.self.inside.places.items) (rise_kept c.self.inside.places.items c.self.invariant.0.rise));
      },
    )

pub invariant_of-self-lent : goal.invariant_of-self-lent
invariant_of-self-lent g c =
    let ps = c.self.inside.places.items in
    let slab = c.self.inside.slab in
    let at = c.in_ok-at.at in
    let place = c.index.result.now in
    let are = c.self.invariant.0 in
    let found : IsPlaceOf c.args.number ps (Some at) = subst (λ xs. IsPlaceOf c.args.number xs (Some at)) c.deref.ensures.value c.in_ok-at.ensures in
    λ lent. (
      λ w. (
        kept_changed slab c.self.inside.index c.self.inside.clashed c.args.number ps at place are found c.index.ensures w,
        c.self.invariant.1,
        few_changed slab c.self.inside.index c.self.inside.clashed c.args.number ps at place are found c.index.ensures w c.self.inside.places c.self.invariant.2,
        room_changed slab c.self.inside.index c.self.inside.clashed c.args.number ps at place are found c.index.ensures w c.self.inside.places c.self.inside.room c.self.invariant.3,
      ),
      c.self.invariant,
    )

pub returns : goal.returns
returns g c =
    let ps = c.self.inside.places.items in
    let slab = c.self.inside.slab in
    let at = c.in_ok-at.at in
    let place = c.index.result.now in
    let are = c.self.invariant.0 in
    let found : IsPlaceOf c.args.number ps (Some at) = subst (λ xs. IsPlaceOf c.args.number xs (Some at)) c.deref.ensures.value c.in_ok-at.ensures in (
      same_end _ _ _ _ _
          (λ w. ap (λ rows. record { rows = rows; room = c.self.inside.room }) (rows_changed slab c.self.inside.index c.self.inside.clashed c.args.number ps at place are found c.index.ensures w)
          ∙ ap (λ (r : RoomyRows g.row.T.Denot). record { rows = with_value c.args.number w r.rows; room = r.room }) c.self.view_is)
          c.self.view_is,
      record {
        lends = tt;
        value = c.get_mut.ensures.value
            ∙ sym (one_found slab c.args.number ps at place are.rise are.there found c.index.ensures)
            ∙ ap (λ (r : RoomyRows g.row.T.Denot). value_in (find (is_numbered c.args.number) r.rows)) c.self.view_is;
        order = subst (λ (r : RoomyRows g.row.T.Denot). StandInOrder r.rows) c.self.view_is (order_rows c.self.inside.slab (kept c.self.inside.places.items) (rise_kept c.self.inside.places.items c.self.invariant.0.rise));
      },
    )
