use Rattle.nfs_words.proofs.word_leases.WordLeases.look.Given as goal

abbrev pub ghosts-load : goal.ghosts-load
ghosts-load a = record { client = a.client }
