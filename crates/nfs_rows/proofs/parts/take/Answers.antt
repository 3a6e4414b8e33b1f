use Rattle.std.proofs.Common.{◌∙◌, None, IsSome, arith, ap, refl, subst, sym}
use Rattle.slab.specs.Slab.{Updates}
use Rattle.nfs_rows.specs.declared.place.Place.{Place}
use Rattle.nfs_rows.proofs.Marks.{key_is}
use Rattle.nfs_rows.specs.Places.{AreKept, rows_at}
use Rattle.nfs_rows.proofs.Shown.{taken_found, taken_kept, taken_rows, taken_value}
use Rattle.nfs_rows.proofs.parts.take.Goals as goal

pub remove-requires : goal.remove-requires
remove-requires g c =
    let v = taken_value c.args.slab.now c.args.slab.now c.args.places.now.items c.args.at c.mark-place.result c.requires.there c.mark-place.ensures.was c.requires.kept.there in
    subst IsSome (sym v.1) refl

pub returns-clause-kept : goal.returns-clause-kept
returns-clause-kept g c =
    let new = c.remove.new.self in
    λ clashed are. subst (λ ps. AreKept new ps c.swap_remove.new.self clashed) (sym c.mark-place.ensures.marked)
    (taken_kept c.args.slab.now new c.args.places.now.items c.args.at c.mark-place.result c.requires.there c.mark-place.ensures.was c.args.index.now c.swap_remove.new.self clashed are
    c.remove.ensures.updates c.remove.ensures.len c.swap_remove.ensures.updates)

pub returns-clause-rows : goal.returns-clause-rows
returns-clause-rows g c =
    ap (rows_at c.remove.new.self) c.mark-place.ensures.marked
    ∙ taken_rows c.args.slab.now c.remove.new.self c.args.places.now.items c.args.at c.mark-place.result c.requires.there c.mark-place.ensures.was c.args.index.now c.requires.kept c.remove.ensures.updates

pub returns-clause-value : goal.returns-clause-value
returns-clause-value g c =
    taken_found c.args.slab.now c.remove.new.self c.args.places.now.items c.args.at c.mark-place.result c.requires.there c.mark-place.ensures.was c.args.index.now c.requires.kept c.remove.result c.remove.ensures.value

pub returns-clause-room : goal.returns-clause-room
returns-clause-room g c = λ room has. record {
  in_slab = omega (arith, has.in_slab, c.remove.ensures.len, c.remove.ensures.capacity);
  in_places = omega (arith, has.in_places, c.mark-place.ensures.len, c.mark-place.ensures.capacity);
  in_index = omega (arith, has.in_index, c.swap_remove.ensures.room.0);
}

pub returns-clause-updates : goal.returns-clause-updates
returns-clause-updates g c =
    subst (λ key. Updates c.args.slab.now c.remove.new.self key None)
    (sym (key_is c.args.places.now.items c.args.at c.mark-place.result c.requires.there.0 ∙ ap (λ (p : Place). p.key) (c.mark-place.ensures.was c.mark-place.result)))
    c.remove.ensures.updates
