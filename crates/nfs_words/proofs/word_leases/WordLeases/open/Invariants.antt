use Rattle.nfs_words.proofs.word_leases.WordLeases.open.Given as goal

abbrev pub ghosts-load : goal.ghosts-load
ghosts-load a = record { client = a.client }

abbrev pub ghosts-put : goal.ghosts-put
ghosts-put a = record { client = a.client }
