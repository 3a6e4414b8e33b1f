-- The leases are those of the same clients.
use Rattle.nfs_leases.proofs.Books.{book_entered}
use Rattle.nfs_leases.proofs.leased_core.LeasedCore.enter.Goals as goal

pub invariant_of-self : goal.invariant_of-self
invariant_of-self g c =
    let old = c.args.self.now in
    record {
      agrees =
          book_entered c.live_clients_follow.ensures.events (g.B.LeaseBook.is_open old.book)
          (g.B.LeaseBook.was_opened old.book) (g.B.LeaseBook.lease old.book) c.args.event old.core c.enter.new.self
          c.enter.result c.requires c.cores_are_lawful.ensures c.enter.ensures.enters c.enter.ensures.same old.agrees;
    }
