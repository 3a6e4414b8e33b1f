use Rattle.nfs_share.proofs.ApartDelegations.{advancing_apart, downgrading_apart, lending_apart, opening_apart, recalling_apart, removing_apart, returning_apart}
use Rattle.nfs_share.proofs.laws.delegations_stay_apart.Goals as goal

pub returns-clause-try_open : goal.returns-clause-try_open
returns-clause-try_open c = opening_apart

pub returns-clause-advance : goal.returns-clause-advance
returns-clause-advance c = advancing_apart

pub returns-clause-downgrade : goal.returns-clause-downgrade
returns-clause-downgrade c = downgrading_apart

pub returns-clause-removal : goal.returns-clause-removal
returns-clause-removal c = removing_apart

pub returns-clause-recall : goal.returns-clause-recall
returns-clause-recall c = recalling_apart

pub returns-clause-give_back : goal.returns-clause-give_back
returns-clause-give_back c = returning_apart

pub returns-clause-lend : goal.returns-clause-lend
returns-clause-lend c = lending_apart
