use Rattle.std.proofs.Common.{◌∙◌, ap, option_map, refl}
use Rattle.nfs_share.specs.Opens.{FileOpens, after_downgrade, is_numbered, open_with_number, stateid_of}
use Rattle.nfs_share.proofs.OpensLaws.{stateid-with_each}
use Rattle.nfs_share.proofs.file_share.FileShare.downgrade.Goals as goal

pub returns-clause-stateid : goal.returns-clause-stateid
returns-clause-stateid c =
    ap (λ (f : FileOpens). option_map stateid_of (open_with_number c.args.number f.opens)) c.keep_within.ensures
    ∙ stateid-with_each (is_numbered c.args.number) (after_downgrade c.args.share) (λ o. refl) (λ o. refl) c.args.self.now.opens
    ∙ c.in_ok-stateid.ensures.stateid
