use Rattle.nfs_share.proofs.Tallies.{others_count}
use Rattle.nfs_share.proofs.tally.Tally.others.Goals as goal

pub returns : goal.returns
returns c = λ marks tally.
    others_count c.args.client marks c.args.self.now.all c.own.result c.without.result tally.all (c.own.ensures marks tally) c.without.ensures
