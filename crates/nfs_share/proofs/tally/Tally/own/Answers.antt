use Rattle.std.proofs.Common.{◌∙◌, ap, sym}
use Rattle.std.specs.Option.{option_copied}
use Rattle.nfs_share.specs.Tally.{is_own}
use Rattle.nfs_share.proofs.Tallies.{none_counted}
use Rattle.nfs_share.proofs.tally.Tally.own.Goals as goal

pub returns-in-None : goal.returns-in-None
returns-in-None c = λ marks tally.
    none_counted (is_own c.args.client) marks (sym (ap option_copied c.in-None.is) ∙ c.get.ensures.value ∙ tally.own c.args.client)
