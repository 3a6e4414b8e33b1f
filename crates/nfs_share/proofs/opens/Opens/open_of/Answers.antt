use Rattle.std.proofs.Common.{map, refl, ap, ◌∙◌, sym}
use Rattle.std.proofs.lemmas.Bool.{ltb-true}
use Rattle.nfs_share.specs.Opens.{open_of}
use Rattle.nfs_share.proofs.Indexed.{file_there}
use Rattle.nfs_share.specs.OpenNodes.{within_rooms}
use Rattle.nfs_share.proofs.opens.Opens.open_of.Goals as goal

pub returns : goal.returns
returns c =
    c.open_of.ensures ∙ ap (open_of c.args.owner.now) (file_there (λ f. f.opens) (λ a b f. refl) c.self.inside.nodes.room c.self.inside.lent.room c.args.self.now c.deref.result.now c.args.node c.in_ok-get.field-0.now (ap (map (within_rooms c.self.inside.nodes.room c.self.inside.lent.room)) c.deref.ensures.value ∙ c.self.view_is) (ltb-true _ _ (sym c.in_ok-get.ensures.lookup.0)) c.in_ok-get.ensures.lookup.1)
