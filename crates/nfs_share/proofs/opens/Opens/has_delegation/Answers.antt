use Rattle.std.proofs.Common.{map, refl, ap, ◌∙◌, sym}
use Rattle.std.proofs.lemmas.Bool.{ltb-false, ltb-true}
use Rattle.nfs_share.proofs.Indexed.{file_there, no_file_there}
use Rattle.nfs_share.specs.OpenNodes.{within_rooms}
use Rattle.nfs_share.specs.Delegations.{has_delegation}
use Rattle.nfs_share.proofs.opens.Opens.has_delegation.Goals as goal

pub returns-in-Some : goal.returns-in-Some
returns-in-Some c =
    c.has_delegation.ensures ∙ ap (has_delegation c.args.client) (file_there (λ f. f.delegations) (λ a b f. refl) c.self.inside.nodes.room c.self.inside.lent.room c.args.self.now c.deref.result.now c.args.node c.in-Some.file.now (ap (map (within_rooms c.self.inside.nodes.room c.self.inside.lent.room)) c.deref.ensures.value ∙ c.self.view_is) (ltb-true _ _ (sym c.in-Some.ensures.lookup.0)) c.in-Some.ensures.lookup.1)

pub returns-in-None : goal.returns-in-None
returns-in-None c =
    ap (has_delegation c.args.client) (no_file_there (λ f. f.delegations) (λ a b f. refl) c.self.inside.nodes.room c.self.inside.lent.room c.args.self.now c.deref.result.now c.args.node (ap (map (within_rooms c.self.inside.nodes.room c.self.inside.lent.room)) c.deref.ensures.value ∙ c.self.view_is) (ltb-false _ _ (sym c.in-None.ensures.lookup.0)))
