use Rattle.nfs_share.proofs.CompatibleOpens.{advancing, downgrading, opening, removing}
use Rattle.nfs_share.proofs.laws.opens_stay_compatible.Goals as goal

pub returns-clause-try_open : goal.returns-clause-try_open
returns-clause-try_open c = opening

pub returns-clause-advance : goal.returns-clause-advance
returns-clause-advance c = advancing

pub returns-clause-downgrade : goal.returns-clause-downgrade
returns-clause-downgrade c = downgrading

pub returns-clause-removal : goal.returns-clause-removal
returns-clause-removal c = removing
