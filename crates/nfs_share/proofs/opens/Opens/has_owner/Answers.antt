use Rattle.std.proofs.Common.{ap, ◌∙◌}
use Rattle.nfs_share.specs.AllOpens.{opens_in}
use Rattle.nfs_share.specs.Opens.{is_of, owner_named}
use Rattle.nfs_share.proofs.Indexed.{opens_view}
use Rattle.std.specs.List.{list_any}
use Rattle.nfs_share.proofs.AllOpens.{any_seen}
use Rattle.nfs_share.proofs.opens.Opens.has_owner.Goals as goal

pub returns : goal.returns
returns c =
    let p = list_any (is_of (owner_named c.args.client c.args.name.now)) in
    c.has_owner_in.ensures
    ∙ any_seen (λ f. f.opens) p c.deref.result.now
    ∙ ap (list_any p) (ap opens_in c.deref.ensures.value ∙ (opens_view c.self.inside.nodes.room c.self.inside.lent.room c.self.inside.files.items c.args.self.now c.self.view_is))
