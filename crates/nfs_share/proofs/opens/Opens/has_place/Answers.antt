use Rattle.std.proofs.Common.{ap, ◌∙◌, sym}
use Rattle.std.specs.Prelude.{nat_lt}
use Rattle.nfs_share.specs.AllOpens.{open_count, opens_in}
use Rattle.nfs_share.proofs.Indexed.{counted, opens_view}
use Rattle.nfs_share.proofs.opens.Opens.has_place.Goals as goal

pub returns : goal.returns
returns c =
    ap (λ n. nat_lt n c.args.limit) (c.self.invariant.0.counted ∙ sym (counted (opens_in c.self.inside.files.items)) ∙ ap open_count (opens_view c.self.inside.nodes.room c.self.inside.lent.room c.self.inside.files.items c.args.self.now c.self.view_is))
