use Rattle.std.proofs.Common.{map, ap, ◌∙◌}
use Rattle.std.specs.Prelude.{nat_lt}
use Rattle.nfs_share.specs.AllOpens.{open_count, opens_in}
use Rattle.nfs_share.specs.Opens.{is_of, without}
use Rattle.nfs_share.proofs.Indexed.{opens_view}
use Rattle.nfs_share.proofs.opens.Opens.has_place_without.Goals as goal

pub returns : goal.returns
returns c =
    c.has_place_without.ensures ∙ ap (λ opens. nat_lt (open_count (map (without (is_of c.args.owner.now)) opens)) c.args.limit) (ap opens_in c.deref.ensures.value ∙ (opens_view c.self.inside.nodes.room c.self.inside.lent.room c.self.inside.files.items c.args.self.now c.self.view_is))
