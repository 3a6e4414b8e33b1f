use Rattle.std.proofs.Common.{◌∙◌, ap, ◌∷◌, [], ◌++◌, subst, sym}
use Rattle.std.specs.List.{IsDistinct}
use Rattle.nfs_share.specs.Share.{is_same}
use Rattle.nfs_share.proofs.SharesLaws.{one_distinct}
use Rattle.nfs_share.proofs.shares.Shares.of.Goals as goal

pub invariant_of-result : goal.invariant_of-result
invariant_of-result c =
    subst (IsDistinct is_same) (sym (c.push.ensures.items ∙ ap (λ xs. xs ++ c.args.share ∷ []) c.new-pairs.ensures)) (one_distinct c.args.share)
