use Rattle.nfs_words.proofs.Ruling.{rules}
use Rattle.nfs_words.proofs.laws.rules_hold.Goals as goal

pub returns : goal.returns
returns c = rules
