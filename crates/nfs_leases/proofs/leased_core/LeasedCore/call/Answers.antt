-- The leases follow what the entry did to who is live.
use Rattle.std.proofs.Common.{Option, ap, subst, sym}
use Rattle.nfs_core.specs.Entered.{Answers, IsEntered}
use Rattle.nfs_core.specs.LiveClients.{LiveFollows}
use Rattle.nfs_core.specs.declared.entered.Entered.{Entered}
use Rattle.nfs_owners.specs.declared.live_change.LiveChange.{LiveChange}
use Rattle.nfs_leases.proofs.Books.{book_follows, can_follow}
use Rattle.nfs_leases.proofs.Comes.{AreLaws}
use Rattle.nfs_leases.proofs.Generations.{earlier_stay_gone}
use Rattle.nfs_leases.proofs.leased_core.LeasedCore.call.Goals as goal
use Rattle.nfs_state.specs.Entries.{entry_of}
use Rattle.nfs_state.specs.State.{History}

pub follow-requires : goal.follow-requires
follow-requires g c =
    let law = g.met.B.LeaseBook in
    let old = c.args.self.now in
    let core = c.answer-answer.new.self in
    let request = c.args.request in
    let entry = entry_of request c.answer-answer.result.0 in
    let entered : IsEntered old.core core entry c.in-Some.made =
    subst (λ (o : Option Entered). Answers old.core core request c.answer-answer.result.0 o) c.in-Some.is c.answer-answer.ensures.answers in
    let follows : LiveFollows c.in-Some.made.live old.core.stored.clients core.stored.clients =
    subst (λ (change : LiveChange). LiveFollows change old.core.stored.clients core.stored.clients) (sym entered.1)
    (c.live_clients_follow.ensures.effects _ _ _ _ c.cores_are_lawful.ensures entered.0.2) in
    can_follow c.in-Some.made.live (g.B.LeaseBook.is_open old.book) (g.B.LeaseBook.was_opened old.book)
    (g.B.LeaseBook.lease old.book) old.core core.stored.clients (law.open_was_opened old.book) old.agrees follows

pub invariant_of-self-in-Some : goal.invariant_of-self-in-Some
invariant_of-self-in-Some g c =
    let law = g.met.B.LeaseBook in
    let old = c.args.self.now in
    let core = c.answer-answer.new.self in
    let request = c.args.request in
    let entry = entry_of request c.answer-answer.result.0 in
    let laws : AreLaws g.B.LeaseBook.happens g.B.LeaseBook.lease g.B.LeaseBook.is_open g.B.LeaseBook.was_opened = record {
      keeps_lease = law.keeps_lease;
      open_follows = law.open_follows;
      opened_follows = law.opened_follows;
    } in
    let entered : IsEntered old.core core entry c.in-Some.made =
    subst (λ (o : Option Entered). Answers old.core core request c.answer-answer.result.0 o) c.in-Some.is c.answer-answer.ensures.answers in
    let follows : LiveFollows c.in-Some.made.live old.core.stored.clients core.stored.clients =
    subst (λ (change : LiveChange). LiveFollows change old.core.stored.clients core.stored.clients) (sym entered.1)
    (c.live_clients_follow.ensures.effects _ _ _ _ c.cores_are_lawful.ensures entered.0.2) in
    let safe = c.lawful_is_safe.ensures.safe _ _ c.answer-answer.ensures.lawful in
    let gone = earlier_stay_gone c.slots_are_apart.ensures core.stored.clients safe.records in
    record {
      agrees =
          book_follows g.B.LeaseBook.happens g.B.LeaseBook.lease g.B.LeaseBook.is_open g.B.LeaseBook.was_opened laws
          law.open_was_opened c.in-Some.made.live c.args.request.moment old.core core old.book c.follow.new.book
          (ap (λ (j : History). j.lease) entered.0.1) follows gone c.follow.ensures old.agrees;
    }
