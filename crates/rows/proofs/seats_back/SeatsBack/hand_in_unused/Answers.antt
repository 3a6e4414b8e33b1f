use Rattle.std.proofs.Common.{◌∙◌, ◌++◌, List, [], ap, length, subst, sym}
use Rattle.nfs_shared.specs.Ends.{IsKept}
use Rattle.nfs_shared.specs.Seats.{SeatView}
use Rattle.nfs_shared.specs.declared.receipt.Receipt.{Receipt}
use Rattle.nfs_shared.specs.laws.Keeping.{kept_fresh}
use Rattle.rows.proofs.Handing.{next_at}
use Rattle.rows.proofs.seats_back.SeatsBack.hand_in_unused.Goals as goal

pub hand_in-requires-clause-place : goal.hand_in-requires-clause-place
hand_in-requires-clause-place g c =
    let whole = c.loop-seat.invariant.whole ∙ ap (λ xs. c.loop-seat.yielded ++ xs) c.in-Some.ensures.steps.0 in
    ap (λ (s : SeatView). s.place) (c.requires.next (length c.loop-seat.yielded) c.in-Some.seat (next_at _ c.loop-seat.yielded _ c.in-Some.seat whole))
    ∙ sym c.loop-seat.invariant.count

pub hand_in-requires-clause-kept : goal.hand_in-requires-clause-kept
hand_in-requires-clause-kept g c =
    let whole = c.loop-seat.invariant.whole ∙ ap (λ xs. c.loop-seat.yielded ++ xs) c.in-Some.ensures.steps.0 in
    let is = c.requires.next (length c.loop-seat.yielded) c.in-Some.seat (next_at _ c.loop-seat.yielded _ c.in-Some.seat whole) in
    subst (λ (xs : List Receipt). IsKept c.in-Some.seat xs) (sym c.new.ensures.items) (subst (λ (s : SeatView). IsKept s []) (sym is) (kept_fresh g.N.Naming.run.words _))
