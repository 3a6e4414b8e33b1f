-- A renewal opens no lease, and ends none.
use Rattle.std.proofs.Common.{ℕ, ◌∙◌, sym}
use Rattle.nfs_core.specs.Server.{Server}
use Rattle.nfs_leases.specs.BookEvent.{Renew}
use Rattle.nfs_leases.specs.BookOf.{IsBookOf}
use Rattle.nfs_leases.specs.PlainBook.{Happens, PlainBook, is_open_in, was_opened_in}
use Rattle.nfs_leases.specs.declared.renewal.Renewal.{Renewal}
use Rattle.nfs_leases.specs.laws.Following.{keeps_lease, open_follows, opened_follows}
use Rattle.nfs_leases.proofs.renewing.renew_lease.Goals as goal

agrees_still : (old new : PlainBook) (client moment : ℕ) (answer : Renewal) → Happens old (Renew client moment answer) new
    → (core : Server)
    → IsBookOf (is_open_in old) (was_opened_in old) old.lease core
    → IsBookOf (is_open_in new) (was_opened_in new) new.lease core
agrees_still old new client moment answer happens core agrees = record {
  lasts = keeps_lease old (Renew client moment answer) new happens ∙ agrees.lasts;
  live = λ q. open_follows old (Renew client moment answer) new happens q ∙ agrees.live q;
  past = λ q h. agrees.past q (sym (opened_follows old (Renew client moment answer) new happens q) ∙ h);
}

pub returns-in-Renewed-clause-kept : goal.returns-in-Renewed-clause-kept
returns-in-Renewed-clause-kept c =
    agrees_still c.args.book.now c.renew.new.self c.in-Some.client c.args.moment c.renew.result c.renew.ensures.happens

pub returns-in_default-clause-kept : goal.returns-in_default-clause-kept
returns-in_default-clause-kept c =
    agrees_still c.args.book.now c.renew.new.self c.in-Some.client c.args.moment c.renew.result c.renew.ensures.happens
