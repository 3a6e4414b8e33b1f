use Rattle.std.proofs.Common.{lit<, ◌∙◌, ap, subst, sym}
use Rattle.std.specs.List.{IsDistinct, list_any}
use Rattle.std.proofs.lemmas.Map.Keys.{IsDistinct-push}
use Rattle.nfs_share.specs.Share.{is_same}
use Rattle.nfs_share.proofs.ShareLaws.{is_same_laws}
use Rattle.nfs_share.proofs.SharesLaws.{room_for_another}
use Rattle.nfs_share.proofs.shares.Shares.insert.Goals as goal

pub push-requires : goal.push-requires
push-requires c =
    let absent = ap (list_any (is_same c.args.share)) c.self.view_is ∙ sym c.has.ensures ∙ c.if-not-has.true in
    (lit< tt, room_for_another c.args.share c.self.inside.pairs.items c.self.invariant absent)

pub invariant_of-self : goal.invariant_of-self
invariant_of-self c =
    let absent = ap (list_any (is_same c.args.share)) c.self.view_is ∙ sym c.has.ensures ∙ c.if-not-has.true in
    subst (IsDistinct is_same) (sym c.push.ensures.items) (IsDistinct-push is_same_laws c.self.inside.pairs.items c.args.share c.self.invariant absent)
