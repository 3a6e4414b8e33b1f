use Rattle.std.proofs.Common.{◌∙◌, ap, false, true, filter, refl, sym}
use Rattle.nfs_share.specs.Share.{contains, is_same}
use Rattle.nfs_share.specs.Shares.{union_of}
use Rattle.nfs_share.proofs.SharesLaws.{lawful}
use Rattle.nfs_share.proofs.shares.Shares.can_downgrade_to.Goals as goal

pub returns-then-has_within : goal.returns-then-has_within
returns-then-has_within c =
    lawful true c.eq.result c.args.self.now c.args.share (sym c.if-has_within.true ∙ c.has_within.ensures)
    (c.eq.ensures ∙ ap (λ union. is_same union c.args.share) c.union_within.ensures)

pub returns-else-has_within : goal.returns-else-has_within
returns-else-has_within c =
    rw c.if-has_within.false
    (lawful false (is_same (union_of (filter (contains c.args.share) c.args.self.now)) c.args.share) c.args.self.now c.args.share
    (sym c.if-has_within.false ∙ c.has_within.ensures) refl)
