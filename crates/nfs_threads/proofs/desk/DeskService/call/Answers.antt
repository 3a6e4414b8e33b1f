-- A receipt that the seat is given is kept after those before. Without one the seat keeps those.
use Rattle.std.proofs.Common.{◌≡◌, Option, Some, ap, refl, subst}
use Rattle.std.specs.Prelude.{IfNone, IfSome}
use Rattle.nfs_shared.specs.Renewing.{RenewsFor}
use Rattle.nfs_shared.specs.Seats.{Gives, KnowsTheSame, SeatView, with_leases}
use Rattle.nfs_shared.specs.declared.receipt.Receipt.{Receipt}
use Rattle.nfs_shared.specs.laws.Keeping.{kept_more, kept_same}
use Rattle.nfs_leases.specs.Renewals.{renewed_by}
use Rattle.nfs_threads.specs.Holding.{Holding}
use Rattle.nfs_threads.proofs.Receiving.{received}
use Rattle.nfs_threads.proofs.desk.DeskService.call.Goals as goal

pub invariant_of-self : goal.invariant_of-self
invariant_of-self g c =
    let old = c.self.inside.seat in
    let new = c.call_in-answer.new.seat in
    let mid = with_leases old new.leases in
    let kept = kept_same old c.self.inside.receipts.items mid c.self.invariant (refl, refl) in
    let given = subst (λ (o : Option Receipt). IfSome o (λ r. Gives mid r new)) c.in-Some.is c.call_in-answer.ensures.given in
    rw c.push_reserved.ensures.items (kept_more mid c.self.inside.receipts.items c.in-Some.receipt new kept given)

pub returns-in-Some-clause-gives : goal.returns-in-Some-clause-gives
returns-in-Some-clause-gives g c =
    let request = c.args.request in
    let old = c.self.inside.seat in
    let new = c.call_in-answer.new.seat in
    let seat : old ≡ c.args.self.now.seat = ap (λ (h : Holding). h.seat) c.self.view_is in
    let receipts : c.self.inside.receipts.items ≡ c.args.self.now.receipts = ap (λ (h : Holding). h.receipts) c.self.view_is in
    let is = received request c.call_in-answer.result.0 c.call_in-answer.result.1 c.in-Some.receipt (with_leases old new.leases) new c.in-Some.is c.call_in-answer.ensures.refused c.call_in-answer.ensures.entry c.call_in-answer.ensures.given in (
      subst (λ (s : SeatView). RenewsFor (renewed_by g.N.Naming.start.epoch request.op) request.moment s.leases new.leases) seat c.call_in-answer.ensures.renews,
      Some c.in-Some.receipt,
      (
        is.0,
        is.1,
        subst (λ (s : SeatView). Gives (with_leases s new.leases) c.in-Some.receipt new) seat is.2,
        rw (← receipts) c.push_reserved.ensures.items,
      ),
    )

pub invariant_of-self-in_default : goal.invariant_of-self-in_default
invariant_of-self-in_default g c =
    let old = c.self.inside.seat in
    let new = c.call_in-answer.new.seat in
    let same = subst (λ (o : Option Receipt). IfNone o (KnowsTheSame old new)) c.in_default.is c.call_in-answer.ensures.same in
    kept_same old c.self.inside.receipts.items new c.self.invariant same
