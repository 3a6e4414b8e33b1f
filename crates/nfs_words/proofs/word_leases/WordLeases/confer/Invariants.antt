use Rattle.nfs_words.proofs.word_leases.WordLeases.confer.Given as goal

abbrev pub ghosts-show : goal.ghosts-show
ghosts-show a = record { client = a.client }
