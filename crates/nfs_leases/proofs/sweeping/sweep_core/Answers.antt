-- The three parts of a sweep.
use Rattle.std.proofs.Common.{ℕ, length, ap, ◌∙◌}
use Rattle.nfs_leases.proofs.Books.{book_kept}
use Rattle.nfs_leases.proofs.ForgottenOwners.{due_after}
use Rattle.nfs_leases.proofs.sweeping.sweep_core.Goals as goal
use Rattle.nfs_leases.specs.declared.swept.Swept.{Swept}
use Rattle.nfs_leases.specs.laws.Gaining.{gains_of_forgettings}
use Rattle.nfs_state.specs.State.{History}

pub returns-clause-sweeps : goal.returns-clause-sweeps
returns-clause-sweeps g c =
    let ends = c.end_clients-swept.ensures.ends in
    let revokes = c.revoke_due-revoked.ensures.revokes in
    let forgets = c.forget_unless-forgotten.ensures.forgets in
    let swept = c.end_clients-swept.result in
    let stopped = c.forget_unless-forgotten.result.stopped in
    record {
      visits = ends.0;
      numbers = revokes.0;
      owners = forgets.0;
      ended = c.end_clients-swept.new.core;
      revoked = c.revoke_due-revoked.new.core;
      halted = c.revoke_due-revoked.result.stopped;
      ends = ends.2;
      revokes = revokes.2;
      forgets = forgets.2;
      due =
          due_after c.revoke_due-revoked.result.stopped c.args.now revokes.0 forgets.0 stopped
          c.end_clients-swept.new.core c.revoke_due-revoked.new.core c.forget_unless-forgotten.new.core
          revokes.2 forgets.2 c.forget_unless-forgotten.ensures.due;
      counts =
          ap (λ (n : ℕ). record swept { revoked = n; forgotten = c.forget_unless-forgotten.result.count; stopped = stopped }) revokes.1
          ∙ ap (λ (n : ℕ). record swept { revoked = length revokes.0; forgotten = n; stopped = stopped }) forgets.1
          ∙ ap (λ (s : Swept). record s { revoked = length revokes.0; forgotten = length forgets.0; stopped = stopped }) ends.1;
    }

pub returns-clause-agrees : goal.returns-clause-agrees
returns-clause-agrees g c =
    let book = c.end_clients-swept.new.book in
    let ended = c.end_clients-swept.new.core in
    let revoked = c.revoke_due-revoked in
    let forgotten = c.forget_unless-forgotten in
    let gained =
    gains_of_forgettings revoked.result.stopped c.args.now forgotten.ensures.forgets.0 forgotten.result.stopped
    revoked.new.core forgotten.new.core forgotten.ensures.forgets.2 in
    book_kept (g.B.LeaseBook.is_open book) (g.B.LeaseBook.was_opened book) (g.B.LeaseBook.lease book)
    revoked.new.core forgotten.new.core (ap (λ (j : History). j.lease) gained.journal) forgotten.ensures.clients
    (book_kept (g.B.LeaseBook.is_open book) (g.B.LeaseBook.was_opened book) (g.B.LeaseBook.lease book)
    ended revoked.new.core (ap (λ (j : History). j.lease) revoked.ensures.revokes.2.entries.journal)
    revoked.ensures.clients c.end_clients-swept.ensures.agrees)
