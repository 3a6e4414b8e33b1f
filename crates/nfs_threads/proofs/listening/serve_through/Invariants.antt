use Rattle.nfs_shared.specs.Naming.{start_of}
use Rattle.nfs_threads.proofs.listening.serve_through.Given as goal

abbrev pub ghosts-run : goal.ghosts-run
ghosts-run g a = record { run = a.opened; start = start_of a.core.journal }
