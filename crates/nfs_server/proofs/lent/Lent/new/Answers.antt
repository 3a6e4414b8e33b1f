-- No lease of a new book is open, or was opened, and no client of the core is live.
use Rattle.std.proofs.Common.{◌∙◌, ap, sym}
use Rattle.nfs_leases.specs.PlainBook.{PlainBook}
use Rattle.nfs_state.specs.State.{History}
use Rattle.nfs_server.proofs.lent.Lent.new.Goals as goal

pub new-requires-2 : goal.new-requires-2
new-requires-2 c = record {
  agrees = record {
    lasts = ap (λ (b : PlainBook). b.lease) c.in_ok-book.ensures.value ∙ c.lease.ensures.value ∙ ap (λ (h : History). h.lease) c.journal.ensures.journal;
    live = λ client. c.in_ok-book.ensures.closed client ∙ sym (c.requires client);
    past = λ client opened. absurd (cc (opened, c.in_ok-book.ensures.fresh client));
  };
}
