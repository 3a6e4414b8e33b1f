use Rattle.std.proofs.Common.{◌≡◌, ◌+◌, ℕ, List, true, false, length, slice_range, refl, sym, subst, ◌∙◌, arith}
use Rattle.std.specs.Prelude.{IsTrue}
use Rattle.std.proofs.lemmas.Bool.{eqb-true}
use Rattle.std.proofs.lemmas.List.{nil_from_length, length-take, length-drop}
use Rattle.nfs_rpc.specs.Keeping.{Begins, Fits, messages_of}
use Rattle.nfs_rpc.proofs.Finding.{so_far_front, so_far_same, so_far_all, so_far_long, begins_longer}
use Rattle.nfs_rpc.proofs.unfinished.take_all.Goals as goal

pub returns-in_err-place-clause-begins : goal.returns-in_err-place-clause-begins
returns-in_err-place-clause-begins c =
    begins_longer c.args.bodies.now.items c.loop-rest.bodies.items c.take_front.new.bodies.items (messages_of c.loop-rest.found.items) c.loop-rest.invariant.begins c.take_front.ensures.begins

pub returns-then-not-fits-clause-begins : goal.returns-then-not-fits-clause-begins
returns-then-not-fits-clause-begins c =
    begins_longer c.args.bodies.now.items c.loop-rest.bodies.items c.take_front.new.bodies.items (messages_of c.loop-rest.found.items) c.loop-rest.invariant.begins c.take_front.ensures.begins

pub returns-then-not-fits-clause-ok : goal.returns-then-not-fits-clause-ok
returns-then-not-fits-clause-ok c =
    let few = c.in_ok-place.ensures.within c.loop-rest.invariant.at_place.fits in
    let len : length c.take_front.new.bodies.items ≡ c.len.result = omega arith in
    let above : Fits (length c.take_front.new.bodies.items) c.in_ok-place.place → ⊥ =
    λ (fits : Fits (length c.take_front.new.bodies.items) c.in_ok-place.place).
    let told : IsTrue c.fits.result = c.fits.ensures.1 (subst (λ (n : ℕ). Fits n c.in_ok-place.place) len fits) in
    let clash : true ≡ false = sym told ∙ c.if-not-fits.true in
    let no : ⊥ = cc in no in
    so_far_long c.args.bodies.now.items c.args.from c.args.piece.now (slice_range c.loop-rest.rest.now c.in_ok-place.taken (length c.loop-rest.rest.now)) (messages_of c.loop-rest.found.items) c.take_front.new.bodies.items
    (record { place = c.in_ok-place.place; count = c.loop-rest.first.count + c.in_ok-place.taken; is_too_long = false }) _ c.in_ok-place.ensures.place few
    (λ fits. above fits) refl
    (so_far_front c.args.bodies.now.items c.args.from c.args.piece.now c.loop-rest.rest.now (messages_of c.loop-rest.found.items) c.loop-rest.bodies.items c.take_front.new.bodies.items c.loop-rest.first c.in_ok-place.place false c.in_ok-place.taken
    c.in_ok-place.ensures.count.1 c.in_ok-place.ensures.at_text c.loop-rest.invariant.found)

pub returns-in_err-first-clause-begins : goal.returns-in_err-first-clause-begins
returns-in_err-first-clause-begins c =
    let b = begins_longer c.args.bodies.now.items c.loop-rest.bodies.items c.take_front.new.bodies.items (messages_of c.loop-rest.found.items) c.loop-rest.invariant.begins c.take_front.ensures.begins in
    subst (λ (l : List ℕ). Begins c.args.bodies.now.items l) (sym c.end_fragment.ensures.begins) b

pub loop-rest-preserved : goal.loop-rest-preserved
loop-rest-preserved c =
    let b = begins_longer c.args.bodies.now.items c.loop-rest.bodies.items c.take_front.new.bodies.items (messages_of c.loop-rest.found.items) c.loop-rest.invariant.begins c.take_front.ensures.begins in
    record {
      at_place = c.in_ok-first.ensures.at_place;
      goes = c.in_ok-first.ensures.goes;
      room = omega (arith, c.in_ok-first.ensures.count, c.in_ok-place.ensures.count.1, c.loop-rest.invariant.room, length-take {A = ℕ}, length-drop {A = ℕ});
      begins = subst (λ (l : List ℕ). Begins c.args.bodies.now.items l) (sym c.end_fragment.ensures.begins) b;
      found = so_far_same c.args.bodies.now.items c.args.from c.args.piece.now (slice_range c.loop-rest.rest.now c.in_ok-place.taken (length c.loop-rest.rest.now)) _ _ _ _ _ _ c.in_ok-first.ensures.found
          (so_far_front c.args.bodies.now.items c.args.from c.args.piece.now c.loop-rest.rest.now (messages_of c.loop-rest.found.items) c.loop-rest.bodies.items c.take_front.new.bodies.items c.loop-rest.first c.in_ok-place.place c.loop-rest.first.is_too_long c.in_ok-place.taken
          c.in_ok-place.ensures.count.1 c.in_ok-place.ensures.at_text c.loop-rest.invariant.found);
    }

pub returns-clause-ok : goal.returns-clause-ok
returns-clause-ok c = so_far_all c.args.bodies.now.items c.args.from c.args.piece.now c.loop-rest.rest.now _ _ _ (nil_from_length c.loop-rest.rest.now (eqb-true _ _ (sym c.loop-rest-test.ensures))) c.loop-rest.invariant.at_place c.loop-rest.invariant.goes c.loop-rest.invariant.found
