use Rattle.std.proofs.Common.{◌∙◌, ap}
use Rattle.nfs_share.proofs.ShareSums.{present, present_is}
use Rattle.nfs_share.proofs.share_counts.ShareCounts.union.Goals as goal

pub returns : goal.returns
returns c = λ shares is. ap present is ∙ present_is shares
