use Rattle.std.proofs.Common.{ap, ◌∙◌}
use Rattle.nfs_share.specs.AllOpens.{delegations_in}
use Rattle.nfs_share.specs.Delegations.{is_lent_to}
use Rattle.nfs_share.proofs.Indexed.{lent_view}
use Rattle.std.specs.List.{list_any}
use Rattle.nfs_share.proofs.AllOpens.{any_seen}
use Rattle.nfs_share.proofs.opens.Opens.has_delegation_of.Goals as goal

pub returns : goal.returns
returns c =
    let p = list_any (is_lent_to c.args.client) in
    c.has_delegation_in.ensures
    ∙ any_seen (λ f. f.delegations) p c.deref.result.now
    ∙ ap (list_any p) (ap delegations_in c.deref.ensures.value ∙ (lent_view c.self.inside.nodes.room c.self.inside.lent.room c.self.inside.files.items c.args.self.now c.self.view_is))
