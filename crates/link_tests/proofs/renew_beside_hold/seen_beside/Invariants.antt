use Rattle.nfs_shared.specs.Naming.{start_of}
use Rattle.link_tests.proofs.renew_beside_hold.seen_beside.Given as goal

abbrev pub ghosts-seen_in : goal.ghosts-seen_in
ghosts-seen_in g a = record { run = a.opened; start = start_of a.core.journal }
