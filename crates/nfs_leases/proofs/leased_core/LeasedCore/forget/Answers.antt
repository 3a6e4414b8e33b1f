-- The leases are those of the same clients.
use Rattle.nfs_leases.proofs.ForgottenOwners.{book_forgotten}
use Rattle.nfs_leases.proofs.leased_core.LeasedCore.forget.Goals as goal

pub invariant_of-self : goal.invariant_of-self
invariant_of-self g c =
    let old = c.args.self.now in
    record {
      agrees =
          book_forgotten c.live_clients_follow.ensures.events (g.B.LeaseBook.is_open old.book)
          (g.B.LeaseBook.was_opened old.book) (g.B.LeaseBook.lease old.book) c.args.now old.core c.forget.new.self
          c.forget.result c.cores_are_lawful.ensures c.forget.ensures.forgotten c.forget.ensures.same old.agrees;
    }
