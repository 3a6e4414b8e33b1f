use Rattle.std.proofs.Common.{◌∙◌, List, length, subst}
use Rattle.nfs_shared.specs.Seats.{SeatView}
use Rattle.rows.proofs.Handing.{fresh_front, unused_of_fresh}
use Rattle.rows.proofs.ManyLinks.{none_lost, still_fresh}
use Rattle.rows.specs.Places.{AreFreshFrom}
use Rattle.rows.proofs.together.Together.serve_batch.Goals as goal

pub serve_links-requires-clause-unused : goal.serve_links-requires-clause-unused
serve_links-requires-clause-unused g c κs within =
    let first = length c.self.inside.back.seats in
    unused_of_fresh g.N.Naming.run.words first _ (fresh_front g.N.Naming.run.words first _ _ (subst (λ (xs : List SeatView). AreFreshFrom g.N.Naming.run.words first xs) c.in_ok-links.ensures c.self.invariant.0))

pub hand_in_all-requires : goal.hand_in_all-requires
hand_in_all-requires g c =
    let first = length c.self.inside.back.seats in
    record {
      next = c.in_ok-ends.ensures.1 g.N.Naming.run.words first (fresh_front g.N.Naming.run.words first _ _ (subst (λ (xs : List SeatView). AreFreshFrom g.N.Naming.run.words first xs) c.in_ok-links.ensures c.self.invariant.0));
    }

pub invariant_of-server : goal.invariant_of-server
invariant_of-server g c =
    let first = length c.self.inside.back.seats in (
      still_fresh g.N.Naming.run.words first _ _ _ _ _ c.self.invariant.0 c.in_ok-links.ensures c.in_ok-ends.ensures c.in_ok-hand_in_all.ensures,
      none_lost first _ _ _ _ _ c.in_ok-links.ensures c.in_ok-ends.ensures c.in_ok-hand_in_all.ensures ∙ c.self.invariant.1,
      c.self.invariant.2,
    )
