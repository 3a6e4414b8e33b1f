-- A renewal leaves the book that of the core's clients.
use Rattle.nfs_leases.proofs.leased_core.LeasedCore+PlainLeases.renew.Goals as goal

pub invariant_of-self : goal.invariant_of-self
invariant_of-self c =
    record { agrees = c.renew_lease.ensures.kept c.args.self.now.core c.args.self.now.agrees }
