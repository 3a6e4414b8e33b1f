use Rattle.std.proofs.Common.{◌∙◌, ap, false, get_or, sym}
use Rattle.nfs_rows.specs.Rows.{pair_in}
use Rattle.nfs_rows.specs.declared.place.Place.{Place}
use Rattle.nfs_rows.proofs.Shown.{named_no, named_yes, walk_found, walk_none, walk_past}
use Rattle.nfs_rows.proofs.parts.named_among.Goals as goal
use Rattle.nfs_rows.proofs.parts.named_among.Goals.{in-Some+else-test, in_default}

abbrev d : Place
d = record { number = 0; hash = 0; client = 0; key = 0; gone = false }

pub returns-then-test : goal.returns-then-test
returns-then-test g c =
    let slab = c.args.slab.now in
    let ps = c.args.places.now in
    let i = c.loop-place.place-index in
    λ p answers.
    let passes = sym (answers c.in-Some.value c.test.result c.test.ensures) ∙ c.if-test.true in
    ap pair_in (sym (walk_found slab c.args.hash p ps i d c.loop-place-test.true c.if-place.false c.in-Some.value.now (sym c.in-Some.ensures)
    (named_yes c.args.hash p (get_or ps i d) c.in-Some.value.now c.if-place-hash.false passes))
    ∙ c.loop-place.invariant.rest p answers)

pub loop-place-preserved : goal.loop-place-preserved
loop-place-preserved g c =
    let slab = c.args.slab.now in
    let ps = c.args.places.now in
    let i = c.loop-place.place-index in
    record {
      rest = λ p answers. elim c.match-get.branch [
        | in-Some+else-test w ↦
            walk_past slab c.args.hash p ps i d c.loop-place-test.true c.if-place.false w.in-Some.value.now (sym w.in-Some.ensures)
            (named_no c.args.hash p (get_or ps i d) w.in-Some.value.now (sym (answers w.in-Some.value w.test.result w.test.ensures) ∙ w.if-test.false))
        | in_default w ↦ walk_none slab c.args.hash p ps i d c.loop-place-test.true c.if-place.false (sym w.in_default.ensures)
      ] ∙ c.loop-place.invariant.rest p answers;
    }
