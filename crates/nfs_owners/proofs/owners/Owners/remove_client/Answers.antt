use Rattle.std.proofs.Common.{◌≡◌, ap, ◌∙◌, subst, sym}
use Rattle.nfs_owners.specs.OwnerRows.{owners_in}
use Rattle.nfs_owners.specs.Owners.{AreOwners, RoomyOwners, without_owners_of}
use Rattle.nfs_owners.proofs.OwnerLists.{owners_filter}
use Rattle.nfs_owners.proofs.OwnerViews.{removed_client}
use Rattle.nfs_owners.proofs.owners.Owners.remove_client.Goals as goal

removed : (c : goal.After-remove_client) → owners_in c.remove_client.new.self.rows ≡ without_owners_of c.args.client (owners_in c.self.inside.owners.rows)
removed c = removed_client c.args.client c.self.inside.owners.rows c.remove_client.new.self.rows c.remove_client.ensures.rows

pub invariant_of-self : goal.invariant_of-self
invariant_of-self c = subst AreOwners (sym (removed c)) (owners_filter _ _ c.self.invariant)

pub returns-clause-owners : goal.returns-clause-owners
returns-clause-owners c = removed c ∙ ap (λ (o : RoomyOwners). without_owners_of c.args.client o.owners) c.self.view_is
