use Rattle.nfs_words.proofs.word_leases.WordLeases.close.Given as goal

abbrev pub ghosts-shut : goal.ghosts-shut
ghosts-shut a = record { client = a.client }
