use Rattle.std.proofs.Common.{◌∙◌, ap}
use Rattle.std.specs.Prelude.{is_some}
use Rattle.nfs_share.specs.Opens.{is_stateid_of}
use Rattle.nfs_share.proofs.AtMostOne.{copied_some, some_or_any}
use Rattle.nfs_share.proofs.file_share.FileShare.names.Goals as goal

pub returns : goal.returns
returns c =
    c.is_some.ensures ∙ copied_some c.named_by.result ∙ ap is_some c.named_by.ensures
    ∙ some_or_any (is_stateid_of c.args.stateid) c.args.self.now.opens
