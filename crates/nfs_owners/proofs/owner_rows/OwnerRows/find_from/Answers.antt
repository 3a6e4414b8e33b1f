use Rattle.std.proofs.Common.{◌∙◌, ◌&&◌, ap, filter, find, subst}
use Rattle.nfs_rows.specs.Rows.{is_from as is_row_from}
use Rattle.nfs_owners.specs.OwnerRows.{RoomyOwnerRows, owners_in}
use Rattle.nfs_owners.specs.Owners.{StandInOrder, is_from}
use Rattle.nfs_owners.proofs.Filing.{found_from, owners_in_order}
use Rattle.nfs_owners.proofs.owner_rows.OwnerRows.find_from.Goals as goal

pub returns-clause-found : goal.returns-clause-found
returns-clause-found g c p answers =
    let rows = c.self.inside.rows.rows in
    c.found_from.ensures p answers
    ∙ ap (λ n. find p (owners_in (filter (is_row_from n) rows))) c.from.ensures
    ∙ found_from c.self.inside.names c.args.entry p rows c.self.invariant.0
    ∙ ap (λ (o : RoomyOwnerRows). find (λ o. is_from c.args.entry o && p o) (owners_in o.rows)) c.self.view_is

pub returns-clause-order : goal.returns-clause-order
returns-clause-order g c =
    subst (λ (o : RoomyOwnerRows). StandInOrder (owners_in o.rows)) c.self.view_is
    (owners_in_order c.self.inside.names c.self.inside.rows.rows c.self.invariant.0 c.len-rows.ensures.order)
