use Rattle.nfs_rules.proofs.Listings.{each_is_listed_once}
use Rattle.nfs_rules.proofs.laws.each_child_is_listed_once.Goals as goal

pub returns : goal.returns
returns c = each_is_listed_once
