use Rattle.std.proofs.Common.{◌∙◌, ap, find, subst, sym}
use Rattle.nfs_rows.specs.Rows.{RoomyRows, is_named, pair_in, pair_seen}
use Rattle.nfs_rows.specs.Places.{AreKept}
use Rattle.nfs_rows.proofs.Shown.{Sole, none_named, sole, sole_fails, sole_passes, sole_there}
use Rattle.nfs_rows.proofs.rows.Rows.find_named.Goals as goal

pub returns-in_err-number : goal.returns-in_err-number
returns-in_err-number g c = λ p answers.
    let ps = c.self.inside.places.items in
    let are = subst (AreKept c.self.inside.slab ps c.self.inside.index) c.if-self.false c.self.invariant.0 in
    ap pair_seen c.from_residual.ensures
    ∙ sym (ap pair_in (none_named c.self.inside.slab ps c.self.inside.index c.args.hash p are (sym c.in_err-number.ensures.value)))
    ∙ ap (λ (r : RoomyRows g.row.T.Denot). pair_in (find (is_named c.args.hash p) r.rows)) c.self.view_is

pub returns-in_err-value : goal.returns-in_err-value
returns-in_err-value g c = λ p answers.
    let ps = c.self.inside.places.items in
    let are = subst (AreKept c.self.inside.slab ps c.self.inside.index) c.if-self.false c.self.invariant.0 in
    let number = c.in_ok-number.field-0.now in
    let only : Sole c.args.self.now.rows c.args.hash number =
    subst (λ (r : RoomyRows g.row.T.Denot). Sole r.rows c.args.hash number) c.self.view_is (sole c.self.inside.slab ps c.self.inside.index c.args.hash number are (sym c.in_ok-number.ensures.value)) in
    absurd (sole_there c.args.self.now.rows c.args.hash number only c.in_err-value.ensures)

pub returns-then-test : goal.returns-then-test
returns-then-test g c = λ p answers.
    let ps = c.self.inside.places.items in
    let are = subst (AreKept c.self.inside.slab ps c.self.inside.index) c.if-self.false c.self.invariant.0 in
    let number = c.in_ok-number.field-0.now in
    let only : Sole c.args.self.now.rows c.args.hash number =
    subst (λ (r : RoomyRows g.row.T.Denot). Sole r.rows c.args.hash number) c.self.view_is (sole c.self.inside.slab ps c.self.inside.index c.args.hash number are (sym c.in_ok-number.ensures.value)) in
    sole_passes c.args.self.now.rows c.args.hash number only p c.in_ok-value.value.now c.in_ok-value.ensures (sym (answers c.in_ok-value.value c.test.result c.test.ensures) ∙ c.if-test.true)

pub returns : goal.returns
returns g c = λ p answers.
    let ps = c.self.inside.places.items in
    let are = subst (AreKept c.self.inside.slab ps c.self.inside.index) c.if-self.false c.self.invariant.0 in
    let number = c.in_ok-number.field-0.now in
    let only : Sole c.args.self.now.rows c.args.hash number =
    subst (λ (r : RoomyRows g.row.T.Denot). Sole r.rows c.args.hash number) c.self.view_is (sole c.self.inside.slab ps c.self.inside.index c.args.hash number are (sym c.in_ok-number.ensures.value)) in
    sole_fails c.args.self.now.rows c.args.hash number only p c.in_ok-value.value.now c.in_ok-value.ensures (sym (answers c.in_ok-value.value c.test.result c.test.ensures) ∙ c.if-test.false)
