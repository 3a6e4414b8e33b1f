use Rattle.nfs_shared.specs.Naming.{start_of}
use Rattle.link_tests.proofs.two_links_at_once.serve_links.Given as goal

abbrev pub ghosts-serve_links_in : goal.ghosts-serve_links_in
ghosts-serve_links_in g a = record { run = a.opened; start = start_of a.core.journal }
