use Rattle.std.proofs.Common.{◌∙◌, ◌∷◌, [], ◌++◌, Some, ap, option_map, refl, sym}
use Rattle.nfs_share.specs.KeptOpens.{RoomyOpens}
use Rattle.nfs_share.specs.Opens.{after_open, is_of, open_of, stateid_of}
use Rattle.nfs_share.proofs.OpensLaws.{open_of-first, stateid-with_each}
use Rattle.nfs_share.proofs.Tables.{if_none}
use Rattle.nfs_share.proofs.file_share.FileShare.grant.Goals as goal

pub returns-in-Some-clause-stateid : goal.returns-in-Some-clause-stateid
returns-in-Some-clause-stateid c =
    ap (λ (t : RoomyOpens). option_map stateid_of (open_of c.args.owner t.opens)) c.in-Some.ensures.some
    ∙ stateid-with_each (is_of c.args.owner) (after_open c.args.share) (λ o. refl) (λ o. refl) c.self.inside.opens.opens
    ∙ sym c.in-Some.ensures.stateid

pub returns-clause-stateid : goal.returns-clause-stateid
returns-clause-stateid c =
    let opens = c.self.inside.opens.opens in
    ap (λ os. option_map stateid_of (open_of c.args.owner os))
    (c.add.ensures.opens ∙ ap (λ (t : RoomyOpens). t.opens ++ c.new-newcomer.result ∷ []) (if_none c.join.result _ c.in_default.is c.join.ensures.none)
    ∙ ap (λ o. opens ++ o ∷ []) c.new-newcomer.ensures)
    ∙ ap (option_map stateid_of) (open_of-first c.args.owner c.args.share c.args.number opens (sym c.in_default.is ∙ c.join.ensures.stateid))
    ∙ ap (λ o. Some (stateid_of o)) (sym c.new-newcomer.ensures)
    ∙ ap Some (sym c.stateid-stateid.ensures)
