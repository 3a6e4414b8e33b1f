use Rattle.std.proofs.Common.{ap, ◌∙◌, subst, sym}
use Rattle.nfs_owners.specs.OwnerRows.{owners_in}
use Rattle.nfs_owners.specs.Owners.{AreOwners, RoomyOwners, has_place, with_kept}
use Rattle.nfs_owners.proofs.OwnerLists.{owners_kept}
use Rattle.nfs_owners.proofs.OwnerViews.{found_row, kept_known, kept_unknown}
use Rattle.nfs_owners.proofs.owners.Owners.keep.Goals as goal

pub invariant_of-self : goal.invariant_of-self
invariant_of-self c =
    let rows = c.self.inside.owners.rows in
    let row = found_row c.args.name _ rows c.row_of_hash.result _ c.as_ref-owner.ensures c.in-Some.is c.row_of_hash.ensures in
    subst AreOwners (sym (kept_known c.args.name c.args.number c.args.kept c.args.confirmed c.in-Some.row rows c.keep_at.new.self.rows row c.keep_at.ensures.rows))
    (owners_kept c.args.name c.args.number c.args.kept c.args.confirmed (owners_in rows) c.self.invariant (ap (λ (o : RoomyOwners). has_place c.args.name o.owners) c.self.view_is ∙ c.requires.place))

pub invariant_of-self-in-None : goal.invariant_of-self-in-None
invariant_of-self-in-None c =
    let rows = c.self.inside.owners.rows in
    let unknown = found_row c.args.name _ rows c.row_of_hash.result _ c.as_ref-owner.ensures c.in-None.is c.row_of_hash.ensures in
    subst AreOwners (sym (kept_unknown c.args.name c.args.number c.args.kept c.args.confirmed c.new.result (owners_in rows) (owners_in c.add.new.self.rows) unknown c.new.ensures c.add.ensures.owners))
    (owners_kept c.args.name c.args.number c.args.kept c.args.confirmed (owners_in rows) c.self.invariant (ap (λ (o : RoomyOwners). has_place c.args.name o.owners) c.self.view_is ∙ c.requires.place))

pub returns-in-Some-clause-owners : goal.returns-in-Some-clause-owners
returns-in-Some-clause-owners c =
    let rows = c.self.inside.owners.rows in
    let row = found_row c.args.name _ rows c.row_of_hash.result _ c.as_ref-owner.ensures c.in-Some.is c.row_of_hash.ensures in
    kept_known c.args.name c.args.number c.args.kept c.args.confirmed c.in-Some.row rows c.keep_at.new.self.rows row c.keep_at.ensures.rows
    ∙ ap (λ (o : RoomyOwners). with_kept c.args.name c.args.number c.args.kept c.args.confirmed o.owners) c.self.view_is

pub returns-in-None-clause-owners : goal.returns-in-None-clause-owners
returns-in-None-clause-owners c =
    let rows = c.self.inside.owners.rows in
    let unknown = found_row c.args.name _ rows c.row_of_hash.result _ c.as_ref-owner.ensures c.in-None.is c.row_of_hash.ensures in
    kept_unknown c.args.name c.args.number c.args.kept c.args.confirmed c.new.result (owners_in rows) (owners_in c.add.new.self.rows) unknown c.new.ensures c.add.ensures.owners
    ∙ ap (λ (o : RoomyOwners). with_kept c.args.name c.args.number c.args.kept c.args.confirmed o.owners) c.self.view_is
