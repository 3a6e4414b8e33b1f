use Rattle.std.proofs.Common.{◌∙◌, ap, fold, take_all}
use Rattle.nfs_share.specs.Share.{no_share, union}
use Rattle.nfs_share.proofs.SharesLaws.{fold-union-none}
use Rattle.nfs_share.proofs.shares.Shares.union.Goals as goal

pub returns : goal.returns
returns c =
    c.loop-pair.invariant.union
    ∙ ap (fold union no_share) (take_all _ _ c.loop-pair-test.false ∙ c.as_slice-pair-items.ensures)
    ∙ fold-union-none c.args.self.now
