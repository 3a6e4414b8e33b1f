use Rattle.std.proofs.Common.{◌∙◌, ap}
use Rattle.nfs_owners.specs.Owner.{is_known}
use Rattle.nfs_owners.specs.Owners.{RoomyOwners}
use Rattle.nfs_owners.specs.StateOwner.{owner_seen}
use Rattle.nfs_owners.proofs.OwnerViews.{some_known}
use Rattle.nfs_owners.proofs.owners.Owners.is_known.Goals as goal

pub returns : goal.returns
returns c =
    c.is_some.ensures
    ∙ some_known (owner_seen c.args.name) c.self.inside.owners.rows c.row_of.result c.row_of.ensures
    ∙ ap (λ (o : RoomyOwners). is_known (owner_seen c.args.name) o.owners) c.self.view_is
