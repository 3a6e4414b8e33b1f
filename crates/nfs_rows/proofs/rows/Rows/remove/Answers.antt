use Rattle.std.proofs.Common.{◌∙◌, None, Some, ap, arith, find, subst, sym}
use Rattle.nfs_rows.specs.Rows.{RoomyRows, is_numbered, value_in, without}
use Rattle.nfs_rows.specs.Places.{IsPlaceOf, NumbersRise, kept, rows_at, rows_of}
use Rattle.nfs_rows.proofs.Marks.{no_place, rise_marked}
use Rattle.nfs_rows.proofs.Shown.{kept_dropped, none_found, none_gone, number_found}
use Rattle.nfs_rows.proofs.rows.Rows.remove.Goals as goal

pub returns-in_err-at-clause-value : goal.returns-in_err-at-clause-value
returns-in_err-at-clause-value g c =
    let ps = c.self.inside.places.items in
    let others : IsPlaceOf c.args.number ps None = subst (λ xs. IsPlaceOf c.args.number xs None) c.deref.ensures.value c.in_err-at.ensures in
    c.from_residual.ensures
    ∙ sym (ap value_in (none_found c.self.inside.slab c.args.number ps others))
    ∙ ap (λ (r : RoomyRows g.row.T.Denot). value_in (find (is_numbered c.args.number) r.rows)) c.self.view_is

pub returns-in_err-at-clause-rows : goal.returns-in_err-at-clause-rows
returns-in_err-at-clause-rows g c =
    let ps = c.self.inside.places.items in
    let others : IsPlaceOf c.args.number ps None = subst (λ xs. IsPlaceOf c.args.number xs None) c.deref.ensures.value c.in_err-at.ensures in
    ap (λ (r : RoomyRows g.row.T.Denot). r.rows) (sym c.self.view_is)
    ∙ sym (none_gone c.self.inside.slab c.args.number ps others)
    ∙ ap (λ (r : RoomyRows g.row.T.Denot). without (is_numbered c.args.number) r.rows) c.self.view_is

pub drop_marks-requires : goal.drop_marks-requires
drop_marks-requires g c = record {
  rise = subst NumbersRise (sym c.take-value.ensures.places) (rise_marked c.self.inside.places.items c.in_ok-at.at c.self.invariant.0.rise);
  rows = c.len.ensures ∙ (c.take-value.ensures.kept c.self.inside.clashed c.self.invariant.0).all;
}

pub invariant_of-self : goal.invariant_of-self
invariant_of-self g c =
    let taken = c.take-value.ensures.kept c.self.inside.clashed c.self.invariant.0 in
    let room = c.take-value.ensures.room c.self.inside.room c.self.invariant.3 in
    let dropped = c.drop_marks.ensures in (
      kept_dropped c.take-value.new.slab c.take-value.new.index c.stay_clashed-self-inside.new.index c.self.inside.clashed c.stay_clashed-self-inside.result
          c.take-value.new.places.items c.drop_marks.new.places.items taken dropped.kept dropped.rise
          (c.stay_clashed-self-inside.ensures.indexed (kept c.take-value.new.places.items) (sym taken.all ∙ sym c.len-2.ensures)),
      dropped.ends,
      omega (arith, dropped.few, c.len.ensures),
      record {
        in_slab = room.in_slab;
        in_places = omega (arith, room.in_places, dropped.length, dropped.capacity);
        in_index = omega (arith, room.in_index, c.stay_clashed-self-inside.ensures.spare);
      },
    )

pub returns-clause-value : goal.returns-clause-value
returns-clause-value g c =
    let ps = c.self.inside.places.items in
    let at = c.in_ok-at.at in
    let found : IsPlaceOf c.args.number ps (Some at) = subst (λ xs. IsPlaceOf c.args.number xs (Some at)) c.deref.ensures.value c.in_ok-at.ensures in
    sym c.take-value.ensures.value
    ∙ (λ i. value_in (find (is_numbered (number_found c.args.number ps at no_place found i)) (rows_at c.self.inside.slab ps)))
    ∙ ap (λ (r : RoomyRows g.row.T.Denot). value_in (find (is_numbered c.args.number) r.rows)) c.self.view_is

pub returns-clause-rows : goal.returns-clause-rows
returns-clause-rows g c =
    let ps = c.self.inside.places.items in
    let at = c.in_ok-at.at in
    let found : IsPlaceOf c.args.number ps (Some at) = subst (λ xs. IsPlaceOf c.args.number xs (Some at)) c.deref.ensures.value c.in_ok-at.ensures in
    ap (rows_of c.take-value.new.slab) c.drop_marks.ensures.kept
    ∙ c.take-value.ensures.rows
    ∙ (λ i. without (is_numbered (number_found c.args.number ps at no_place found i)) (rows_at c.self.inside.slab ps))
    ∙ ap (λ (r : RoomyRows g.row.T.Denot). without (is_numbered c.args.number) r.rows) c.self.view_is
