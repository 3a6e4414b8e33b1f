use Rattle.nfs_words.proofs.word_leases.WordLeases.retire.Given as goal

abbrev pub ghosts-stop : goal.ghosts-stop
ghosts-stop a = record { client = a.client }
