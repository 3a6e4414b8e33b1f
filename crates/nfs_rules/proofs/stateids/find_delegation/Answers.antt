use Rattle.nfs_rules.proofs.stateids.find_delegation.Goals as goal

pub returns : goal.returns
returns c = c.in_ok-found.ensures
