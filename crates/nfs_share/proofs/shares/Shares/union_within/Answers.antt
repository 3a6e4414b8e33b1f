use Rattle.std.proofs.Common.{◌∙◌, ap, filter, fold, take_all}
use Rattle.nfs_share.specs.Share.{contains, no_share, union}
use Rattle.nfs_share.proofs.SharesLaws.{fold-union-none}
use Rattle.nfs_share.proofs.shares.Shares.union_within.Goals as goal

pub returns : goal.returns
returns c =
    c.loop-pair.invariant.union
    ∙ ap (λ pairs. fold union no_share (filter (contains c.args.share) pairs)) (take_all _ _ c.loop-pair-test.false ∙ c.as_slice-pair-items.ensures)
    ∙ fold-union-none (filter (contains c.args.share) c.args.self.now)
