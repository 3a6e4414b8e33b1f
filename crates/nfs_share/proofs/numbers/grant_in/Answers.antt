use Rattle.std.proofs.Common.{◌∙◌}
use Rattle.std.specs.Prelude.{nat_lt}
use Rattle.nfs_share.proofs.Indexed.{one_more}
use Rattle.nfs_share.proofs.numbers.grant_in.Goals as goal

pub returns-clause-made : goal.returns-clause-made
returns-clause-made c =
    (λ i. nat_lt (c.len-before.ensures i) (c.len.ensures i))
    ∙ one_more c.args.owner c.args.share c.args.number c.args.file.now.opens c.grant.new.self.opens c.grant.ensures.opens
