use Rattle.nfs_share.proofs.ApartDelegations.{lending_single, recalling_single, returning_single}
use Rattle.nfs_share.proofs.laws.delegations_stay_single.Goals as goal

pub returns-clause-recall : goal.returns-clause-recall
returns-clause-recall c = recalling_single

pub returns-clause-give_back : goal.returns-clause-give_back
returns-clause-give_back c = returning_single

pub returns-clause-lend : goal.returns-clause-lend
returns-clause-lend c = lending_single
