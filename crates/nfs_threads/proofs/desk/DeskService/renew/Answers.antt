-- Without a receipt the seat keeps those before.
use Rattle.std.proofs.Common.{ap}
use Rattle.nfs_shared.specs.Seats.{SeatView}
use Rattle.nfs_shared.specs.laws.Keeping.{kept_same}
use Rattle.nfs_threads.proofs.desk.DeskService.renew.Goals as goal

pub invariant_of-self : goal.invariant_of-self
invariant_of-self g c =
    let same = c.renew-told.ensures.same in
    kept_same c.self.inside.seat c.self.inside.receipts.items c.renew-told.new.seat c.self.invariant
    (ap (λ (s : SeatView). s.place) same, ap (λ (s : SeatView). s.receipts) same)
