use Rattle.std.proofs.Common.{◌≡◌, ap, ◌∙◌, refl, subst, sym}
use Rattle.nfs_owners.specs.OwnerRows.{owners_in}
use Rattle.nfs_owners.specs.Owners.{AreOwners, RoomyOwners, has_place, without_owner}
use Rattle.nfs_owners.specs.StateOwner.{owner_seen}
use Rattle.nfs_owners.proofs.OwnerLists.{owners_filter, place_without, same_unknown}
use Rattle.nfs_owners.proofs.OwnerViews.{found_row, removed_known}
use Rattle.nfs_owners.proofs.owners.Owners.remove.Goals as goal

removed : (c : goal.After-remove_at) → owners_in c.remove_at.new.self.rows ≡ without_owner (owner_seen c.args.name) (owners_in c.self.inside.owners.rows)
removed c =
    removed_known (owner_seen c.args.name) c.in-Some.row c.self.inside.owners.rows c.remove_at.new.self.rows
    (found_row (owner_seen c.args.name) _ c.self.inside.owners.rows c.row_of.result _ refl c.in-Some.is c.row_of.ensures) c.remove_at.ensures.rows

pub invariant_of-self : goal.invariant_of-self
invariant_of-self c = subst AreOwners (sym (removed c)) (owners_filter _ _ c.self.invariant)

pub returns-in-Some-clause-owners : goal.returns-in-Some-clause-owners
returns-in-Some-clause-owners c = removed c ∙ ap (λ (o : RoomyOwners). without_owner (owner_seen c.args.name) o.owners) c.self.view_is

pub returns-in-Some-clause-places : goal.returns-in-Some-clause-places
returns-in-Some-clause-places c other place =
    ap (has_place other) (removed c)
    ∙ place_without (owner_seen c.args.name) other (owners_in c.self.inside.owners.rows) c.self.invariant (ap (λ (o : RoomyOwners). has_place other o.owners) c.self.view_is ∙ place)

pub returns-in_default-clause-owners : goal.returns-in_default-clause-owners
returns-in_default-clause-owners c =
    sym (ap (λ (o : RoomyOwners). o.owners) c.self.view_is)
    ∙ sym (same_unknown (owner_seen c.args.name) (owners_in c.self.inside.owners.rows) (found_row (owner_seen c.args.name) _ c.self.inside.owners.rows c.row_of.result _ refl c.in_default.is c.row_of.ensures))
    ∙ ap (λ (o : RoomyOwners). without_owner (owner_seen c.args.name) o.owners) c.self.view_is
