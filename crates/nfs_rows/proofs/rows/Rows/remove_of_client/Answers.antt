use Rattle.std.proofs.Common.{◌≡◌, ◌∙◌, ◌+◌, ◌<◌, ◌≤◌, ℕ, ap, arith, false, length, subst, sym}
use Rattle.nfs_rows.specs.Rows.{is_of_client}
use Rattle.nfs_rows.specs.Places.{rows_of}
use Rattle.nfs_rows.specs.declared.place.Place.{Place}
use Rattle.nfs_rows.specs.declared.rows.Rows.TheInside.{Inside}
use Rattle.nfs_rows.proofs.Each.{any_default}
use Rattle.nfs_rows.proofs.Marks.{length_marked}
use Rattle.nfs_rows.proofs.Clearing.{Clears, Stands, cleared, clears_other, clears_taken}
use Rattle.nfs_rows.proofs.rows.Rows.remove_of_client.Goals as goal
use Rattle.nfs_rows.proofs.rows.Rows.remove_of_client.Goals.{then-has_row_of, else-has_row_of}

within : (at end n : ℕ) → at < end → n ≡ end → at < n
within at end n less long = omega (arith, less, long)

passed_all : (at end n : ℕ) → end ≤ at → n ≡ end → n ≤ at
passed_all at end n all long = omega (arith, all, long)

pub take-value-requires-clause-there : goal.take-value-requires-clause-there
take-value-requires-clause-there g c =
    let ps = c.loop-at.self-inside.places.items in
    let p = c.index-place.result.now in
    let below = within c.loop-at.at c.len-at-end.result (length ps) c.loop-at-test.true c.loop-at.invariant.stands.long in (
      below,
      λ d. subst (λ (q : Place). q.gone ≡ false) (c.index-place.ensures ∙ any_default ps c.loop-at.at p d below) (c.has_row_of.ensures.there c.if-has_row_of.true),
    )

pub loop-at-preserved : goal.loop-at-preserved
loop-at-preserved g c =
    let s = c.loop-at.self-inside in
    let stands = c.loop-at.invariant.stands in
    let room = c.args.self.now.room in
    let end = c.len-at-end.result in
    let at = c.loop-at.at in
    let place = c.index-place.result.now in
    let below = within at end (length s.places.items) c.loop-at-test.true stands.long in
    elim c.if-has_row_of.branch [
      | then-has_row_of w ↦
          let taken = w.take-value.ensures in
          let new = w.take-value.new in
          record {
            stands = subst (λ (t : Inside g.row.T.Denot). Stands room end t.slab t.places t.index t.clashed t.room) (sym w.self-inside-is) (record {
              are = taken.kept s.clashed stands.are;
              has = taken.room s.room stands.has;
              same_room = stands.same_room;
              long = ap length taken.places ∙ length_marked s.places.items at ∙ stands.long;
            });
            clears = λ p answers. subst (λ (t : Inside g.row.T.Denot). Clears (is_of_client c.args.client p) c.args.self.now.rows (at + 1) t.slab t.places.items) (sym w.self-inside-is)
                (clears_taken (is_of_client c.args.client p) c.args.self.now.rows at s.slab s.places.items (c.loop-at.invariant.clears p answers) place c.index-place.ensures below
                (sym (c.has_row_of.ensures.passes p answers) ∙ w.if-has_row_of.true) stands.are.rise stands.are.apart new.slab new.places.items taken.places taken.updates taken.rows);
          }
      | else-has_row_of w ↦ record {
        stands = subst (λ (t : Inside g.row.T.Denot). Stands room end t.slab t.places t.index t.clashed t.room) (sym w.self-inside-is) stands;
        clears = λ p answers. subst (λ (t : Inside g.row.T.Denot). Clears (is_of_client c.args.client p) c.args.self.now.rows (at + 1) t.slab t.places.items) (sym w.self-inside-is)
            (clears_other (is_of_client c.args.client p) c.args.self.now.rows at s.slab s.places.items (c.loop-at.invariant.clears p answers) place c.index-place.ensures below
            (sym (c.has_row_of.ensures.passes p answers) ∙ w.if-has_row_of.false));
      }
    ]

pub returns-clause-rows : goal.returns-clause-rows
returns-clause-rows g c = λ p answers.
    let s = c.loop-at.self-inside in
    ap (rows_of s.slab) c.drop_marks.ensures.kept
    ∙ cleared (is_of_client c.args.client p) c.args.self.now.rows c.loop-at.at s.slab s.places.items (c.loop-at.invariant.clears p answers)
    (passed_all c.loop-at.at c.len-at-end.result (length s.places.items) c.loop-at-test.false c.loop-at.invariant.stands.long)
