use Rattle.std.proofs.Common.{◌∙◌, ap}
use Rattle.std.specs.Prelude.{is_some}
use Rattle.nfs_share.specs.Opens.{is_numbered}
use Rattle.nfs_share.proofs.Indexed.{any_found, lent_or_none}
use Rattle.nfs_share.proofs.numbers.FileShareNumberedOpenState.has_number.Goals as goal

pub returns : goal.returns
returns c =
    c.is_some.ensures ∙ lent_or_none c.find.result ∙ ap is_some c.find.ensures
    ∙ any_found (is_numbered c.args.number) c.args.self.now.opens
