use Rattle.std.proofs.Common.{◌≡◌, List, [], ◌∷◌, ◌++◌, Some, length, slice_get, ap, refl, subst, sym, ◌∙◌}
use Rattle.nfs_shared.specs.Ends.{IsKept}
use Rattle.nfs_shared.specs.Seats.{SeatView}
use Rattle.nfs_shared.specs.laws.Keeping.{kept_fresh}
use Rattle.link_tests.proofs.renew_beside_hold.seen_at.Goals as goal

at_end : {A : Type 0} (xs : List A) (x : A) → slice_get (xs ++ x ∷ []) (length xs) ≡ Some x
at_end [] x = refl
at_end (y ∷ xs) x = at_end xs x

pub seen_by_two-seen-requires-clause-unused : goal.seen_by_two-seen-requires-clause-unused
seen_by_two-seen-requires-clause-unused g c κs within =
    let before = c.pop.new.self.items in
    let at = ap (λ (seats : List SeatView). slice_get seats (length before)) c.in-Some.ensures.items
    ∙ at_end before c.in-Some.seat in
    let is = c.requires.fresh.1 (length before) c.in-Some.seat at in
    subst (λ (s : SeatView). IsKept s []) (sym is) (kept_fresh g.N.Naming.run.words (length before))
