use Rattle.std.proofs.Common.{length}
use Rattle.nfs_shared.proofs.register.give.Given as goal

abbrev pub ghosts-count_events : goal.ghosts-count_events
ghosts-count_events g a = record { count = length a.leases.now.view.own }
