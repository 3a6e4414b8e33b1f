-- What the core told of its entry, and the calls on the book, from the value that was asked.
use Rattle.std.proofs.Common.{◌≡◌, ◌∙◌, ap, subst}
use Rattle.nfs_core.specs.Entered.{Answers}
use Rattle.nfs_core.specs.Server.{Server}
use Rattle.nfs_server.proofs.lent.LentService.call.Goals as goal
use Rattle.nfs_server.specs.Leases.{LentCore}
use Rattle.nfs_leases.specs.BookEvent.{AllHappen}
use Rattle.nfs_leases.specs.BookOf.{events_entered}
use Rattle.nfs_leases.specs.PlainBook.{Happens, PlainBook, with_renewal}
use Rattle.nfs_leases.specs.Renewals.{renewed_by}
use Rattle.nfs_state.specs.State.{History}

pub returns-clause-gives : goal.returns-clause-gives
returns-clause-gives c =
    let called = c.call-answer in
    let request = c.args.request in
    let old : LentCore = c.args.self.now in
    let server : c.renew.new.self.core ≡ old.core = c.renew.ensures.core ∙ ap (λ (l : LentCore). l.core) c.self.view_is in
    let epoch : c.epoch.result ≡ old.core.journal.epoch =
    c.epoch.ensures ∙ ap (λ (j : History). j.epoch) c.journal.ensures.journal ∙ ap (λ (s : Server). s.journal.epoch) (ap (λ (l : LentCore). l.core) c.self.view_is) in
    let before = ap (λ (l : LentCore). l.book) c.self.view_is in
    let book : c.renew.new.self.book ≡ with_renewal (renewed_by old.core.journal.epoch request.op) request.moment old.book =
    cc (c.renew.ensures.book, c.renewed_client-client.ensures, epoch, before) in (
      called.result.1,
      subst (λ (s : Server). Answers s called.new.self.core request called.result.0 called.result.1) server called.ensures.answers,
      subst (λ (b : PlainBook). AllHappen Happens b (events_entered called.result.1 request.moment) called.new.self.book) book called.ensures.leases,
    )
