use Rattle.std.proofs.Common.{◌≡◌, ◌∙◌, ◌∷◌, ◌++◌, ◌<◌, [], true, false, None, ap, arith, refl, subst, sym}
use Rattle.std.specs.Prelude.{nat_eq}
use Rattle.indexmap.specs.IndexMap as maps
use Rattle.nfs_rows.specs.Rows.{IsAbove, Row, RoomyRows}
use Rattle.nfs_rows.specs.Places.{AreKept, EndsKept, kept, rows_at}
use Rattle.nfs_rows.specs.declared.place.Place.{Place}
use Rattle.nfs_rows.proofs.Leading.{indexed_more}
use Rattle.nfs_rows.proofs.Marks.{ends_push}
use Rattle.nfs_rows.proofs.Shown.{added_kept, added_rows}
use Rattle.nfs_rows.proofs.rows.Rows.add.Goals as goal

no_true : true ≡ false → ⊥
no_true is = cc

pub invariant_of-self : goal.invariant_of-self
invariant_of-self g c =
    let old = c.self.inside.slab in
    let new = c.insert_reserved-key.new.self in
    let ps = c.self.inside.places.items in
    let are = c.self.invariant.0 in
    let room = c.self.invariant.3 in
    let filled = c.insert_reserved-key.ensures in
    let place : Place = record { number = c.args.number; hash = c.args.hash; client = c.args.client; key = c.insert_reserved-key.result; gone = false } in
    let above : IsAbove c.args.number (rows_at old ps) = subst (λ (r : RoomyRows g.row.T.Denot). IsAbove c.args.number r.rows) (sym c.self.view_is) c.requires.newest in
    let none : maps.get nat_eq c.self.inside.index c.args.hash ≡ None = sym c.in-Ok-None.ensures.old ∙ c.in-Ok-None.field-0-is in
    let some : 0 < c.self.inside.room = subst (λ (r : RoomyRows g.row.T.Denot). 0 < r.room) (sym c.self.view_is) c.requires.room in (
      subst (λ xs. AreKept new xs c.insert.new.self c.self.inside.clashed) (sym c.push_reserved.ensures.items)
          (added_kept old new ps place c.args.value refl filled.updates filled.was_vacant c.self.inside.index c.insert.new.self c.self.inside.clashed c.self.inside.clashed are c.self.invariant.1 above filled.len
          (λ clean. indexed_more c.self.inside.index c.insert.new.self (kept ps) place (are.indexed clean) none c.in-Ok-None.ensures.updates)),
      subst EndsKept (sym c.push_reserved.ensures.items) (ends_push ps place refl),
      omega (arith, c.self.invariant.2, c.push_reserved.ensures.len, filled.len),
      record {
        in_slab = omega (arith, room.in_slab, filled.len, filled.capacity, some);
        in_places = omega (arith, room.in_places, c.push_reserved.ensures.len, c.push_reserved.ensures.capacity, some);
        in_index = omega (arith, room.in_index, c.insert.ensures.spare, some);
      },
    )

pub invariant_of-self-in_default : goal.invariant_of-self-in_default
invariant_of-self-in_default g c =
    let old = c.self.inside.slab in
    let new = c.insert_reserved-key.new.self in
    let ps = c.self.inside.places.items in
    let are = c.self.invariant.0 in
    let room = c.self.invariant.3 in
    let filled = c.insert_reserved-key.ensures in
    let place : Place = record { number = c.args.number; hash = c.args.hash; client = c.args.client; key = c.insert_reserved-key.result; gone = false } in
    let above : IsAbove c.args.number (rows_at old ps) = subst (λ (r : RoomyRows g.row.T.Denot). IsAbove c.args.number r.rows) (sym c.self.view_is) c.requires.newest in
    let some : 0 < c.self.inside.room = subst (λ (r : RoomyRows g.row.T.Denot). 0 < r.room) (sym c.self.view_is) c.requires.room in (
      subst (λ xs. AreKept new xs c.insert.new.self true) (sym c.push_reserved.ensures.items)
          (added_kept old new ps place c.args.value refl filled.updates filled.was_vacant c.self.inside.index c.insert.new.self c.self.inside.clashed true are c.self.invariant.1 above filled.len
          (λ clean. absurd (no_true clean))),
      subst EndsKept (sym c.push_reserved.ensures.items) (ends_push ps place refl),
      omega (arith, c.self.invariant.2, c.push_reserved.ensures.len, filled.len),
      record {
        in_slab = omega (arith, room.in_slab, filled.len, filled.capacity, some);
        in_places = omega (arith, room.in_places, c.push_reserved.ensures.len, c.push_reserved.ensures.capacity, some);
        in_index = omega (arith, room.in_index, c.insert.ensures.spare, some);
      },
    )

pub returns-in-Ok-None-clause-rows : goal.returns-in-Ok-None-clause-rows
returns-in-Ok-None-clause-rows g c =
    let new = c.insert_reserved-key.new.self in
    let filled = c.insert_reserved-key.ensures in
    let place : Place = record { number = c.args.number; hash = c.args.hash; client = c.args.client; key = c.insert_reserved-key.result; gone = false } in
    let row : Row g.row.T.Denot = record { number = c.args.number; hash = c.args.hash; client = c.args.client; value = c.args.value } in
    ap (rows_at new) c.push_reserved.ensures.items
    ∙ added_rows c.self.inside.slab new c.self.inside.places.items place c.args.value refl filled.updates filled.was_vacant c.self.invariant.0.there
    ∙ ap (λ (r : RoomyRows g.row.T.Denot). r.rows ++ row ∷ []) c.self.view_is

pub returns-in_default-clause-rows : goal.returns-in_default-clause-rows
returns-in_default-clause-rows g c =
    let new = c.insert_reserved-key.new.self in
    let filled = c.insert_reserved-key.ensures in
    let place : Place = record { number = c.args.number; hash = c.args.hash; client = c.args.client; key = c.insert_reserved-key.result; gone = false } in
    let row : Row g.row.T.Denot = record { number = c.args.number; hash = c.args.hash; client = c.args.client; value = c.args.value } in
    ap (rows_at new) c.push_reserved.ensures.items
    ∙ added_rows c.self.inside.slab new c.self.inside.places.items place c.args.value refl filled.updates filled.was_vacant c.self.invariant.0.there
    ∙ ap (λ (r : RoomyRows g.row.T.Denot). r.rows ++ row ∷ []) c.self.view_is
