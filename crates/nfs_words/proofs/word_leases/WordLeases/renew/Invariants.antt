use Rattle.nfs_words.proofs.word_leases.WordLeases.renew.Given as goal

abbrev pub ghosts-raise : goal.ghosts-raise
ghosts-raise a = record { client = a.client }
