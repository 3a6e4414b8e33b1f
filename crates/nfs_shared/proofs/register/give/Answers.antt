use Rattle.std.proofs.Common.{◌≡◌, ◌∙◌, List, Some, refl, subst}
use mathlib.Core.List.{IsPrefix}
use Rattle.nfs_shared.proofs.Giving.{above_last, goes_on, last_added}
use Rattle.nfs_shared.proofs.register.give.Goals as goal
use Rattle.nfs_shared.specs.Roll.{list_of, seen_of}
use Rattle.nfs_shared.specs.Seats.{Gives, SeatView}
use Rattle.nfs_shared.specs.declared.receipt.Receipt.{Receipt}

pub invariant_of-seat : goal.invariant_of-seat
invariant_of-seat g c =
    let receipt : Receipt = record { place = c.seat.inside.place; number = c.args.number; call = c.args.call.call } in
    let whole = list_of c.args.register.now.writer in
    let signed = c.sign.ensures in (
      (signed.token.0.0 ∙ c.requires.roll, c.requires.writer.0.1),
      signed.token.1,
      c.add.ensures.parts ∙ c.seat.invariant.2,
      c.seat.invariant.3,
      last_added whole (list_of c.sign.new.token) receipt (Some c.args.number) signed.list refl,
    )

pub returns-clause-given : goal.returns-clause-given
returns-clause-given g c =
    let seat = c.seat.inside in
    let receipt : Receipt = record { place = seat.place; number = c.args.number; call = c.args.call.call } in
    let whole = list_of c.args.register.now.writer in
    let signed = c.sign.ensures in
    let begins : IsPrefix (list_of seat.token) whole = subst (λ (l : List Receipt). IsPrefix l whole) c.count_events.ensures.list signed.begins in
    let new : SeatView = record {
      place = seat.place;
      receipts = record {
        last = Some c.args.number;
        list = list_of c.sign.new.token;
        given = c.add.new.share.amount;
        seen = seen_of c.sign.new.token;
      };
      leases = seat.leases;
    } in
    subst (λ (s : SeatView). Gives s receipt new) c.seat.view_is
    (record {
      place = refl;
      same = refl;
      above = above_last whole (list_of seat.token) c.args.number seat.last begins c.requires.above c.seat.invariant.4;
      last = refl;
      list = goes_on whole (list_of seat.token) receipt (list_of c.sign.new.token) begins signed.list;
      given = c.add.ensures.amount;
      seen = signed.seen ∙ c.count_events.ensures.seen;
      leases = refl;
    })
