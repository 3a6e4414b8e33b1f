use Rattle.std.proofs.Common.{◌≡◌, ap, ◌∙◌, refl, subst, sym}
use Rattle.nfs_owners.specs.OwnerRows.{confirmed, owners_in}
use Rattle.nfs_owners.specs.Owners.{AreOwners, RoomyOwners, with_confirmed}
use Rattle.nfs_owners.specs.StateOwner.{owner_seen}
use Rattle.nfs_owners.proofs.OwnerLists.{owners_change}
use Rattle.nfs_owners.proofs.OwnerViews.{confirmed_known, confirmed_unknown, found_row}
use Rattle.nfs_owners.proofs.owners.Owners.confirm.Goals as goal

found : (c : goal.After-confirm_at) → owners_in c.confirm_at.new.self.rows ≡ with_confirmed (owner_seen c.args.name) (owners_in c.self.inside.owners.rows)
found c =
    confirmed_known (owner_seen c.args.name) c.in-Some.row c.self.inside.owners.rows c.confirm_at.new.self.rows
    (found_row (owner_seen c.args.name) _ c.self.inside.owners.rows c.row_of.result _ refl c.in-Some.is c.row_of.ensures) c.confirm_at.ensures.rows

pub invariant_of-self : goal.invariant_of-self
invariant_of-self c = subst AreOwners (sym (found c)) (owners_change confirmed _ _ c.self.invariant)

pub returns-in-Some-clause-owners : goal.returns-in-Some-clause-owners
returns-in-Some-clause-owners c = found c ∙ ap (λ (o : RoomyOwners). with_confirmed (owner_seen c.args.name) o.owners) c.self.view_is

pub returns-in_default-clause-owners : goal.returns-in_default-clause-owners
returns-in_default-clause-owners c =
    sym (ap (λ (o : RoomyOwners). o.owners) c.self.view_is)
    ∙ confirmed_unknown (owner_seen c.args.name) (owners_in c.self.inside.owners.rows) (found_row (owner_seen c.args.name) _ c.self.inside.owners.rows c.row_of.result _ refl c.in_default.is c.row_of.ensures)
    ∙ ap (λ (o : RoomyOwners). with_confirmed (owner_seen c.args.name) o.owners) c.self.view_is
