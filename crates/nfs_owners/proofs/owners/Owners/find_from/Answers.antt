use Rattle.std.proofs.Common.{◌≡◌, ◌∙◌, ◌&&◌, ap, find, subst}
use Rattle.std.specs.Prelude.{IfSome, Some}
use Rattle.nfs_owners.specs.Owner.{owner_of}
use Rattle.nfs_owners.specs.OwnerRows.{owners_in}
use Rattle.nfs_owners.proofs.OwnerLists.{own_lent}
use Rattle.nfs_owners.specs.Owners.{RoomyOwners, is_from}
use Rattle.nfs_owners.proofs.owners.Owners.find_from.Goals as goal

pub returns-clause-found : goal.returns-clause-found
returns-clause-found g c p answers =
    c.find_from.ensures.found p answers
    ∙ ap (λ (o : RoomyOwners). find (λ o. is_from c.args.entry o && p o) o.owners) c.self.view_is

pub returns-clause-own : goal.returns-clause-own
returns-clause-own g c p answers =
    let owners = owners_in c.self.inside.owners.rows in
    subst (λ (o : RoomyOwners). IfSome c.find_from.result (λ owner. owner_of owner.now.name o.owners ≡ Some owner.now)) c.self.view_is
    (own_lent (λ o. is_from c.args.entry o && p o) owners c.find_from.result c.self.invariant.1 (c.find_from.ensures.found p answers))
