use Rattle.std.proofs.Common.{◌≡◌, ◌∙◌, ap, find, subst, sym, rules, false, Some}
use Rattle.nfs_rows.specs.Rows.{is_named, pair_in, pair_seen}
use Rattle.nfs_owners.specs.Owner.{has_name, is_known}
use Rattle.nfs_owners.specs.OwnerRows.{IsRowOf, RoomyOwnerRows, name_hash, owners_in}
use Rattle.nfs_owners.specs.Owners.{AreOwners}
use Rattle.nfs_owners.specs.StateOwner.{owner_seen}
use Rattle.nfs_owners.proofs.Filing.{pair_found, row_known, row_unknown}
use Rattle.nfs_owners.proofs.owner_rows.OwnerRows.row_of_hash.Goals as goal

pub returns-in-Some : goal.returns-in-Some
returns-in-Some c =
    let rows = c.self.inside.rows.rows in
    let names = c.self.inside.names in
    let name = owner_seen c.args.name in
    let test = has_name name in
    let found = c.find_named.ensures test (λ shown answer says. search rules) in
    let apart : AreOwners (owners_in rows) = subst (λ (o : RoomyOwnerRows). AreOwners (owners_in o.rows)) (sym c.self.view_is) c.requires.owners in
    subst (λ (o : RoomyOwnerRows). IsRowOf name o.rows (Some c.in-Some.row)) c.self.view_is
    (row_known name rows c.in-Some.row c.in-Some.field-0-1.now c.len-rows.ensures.order apart.1
    (sym (ap pair_seen c.in-Some.is) ∙ found ∙ ap (λ h. pair_in (find (is_named h test) rows)) (c.requires.hash ∙ ap (λ (o : RoomyOwnerRows). name_hash o.names name) (sym c.self.view_is)) ∙ pair_found names name rows c.self.invariant.0))

pub returns-in-None : goal.returns-in-None
returns-in-None c =
    let rows = c.self.inside.rows.rows in
    let names = c.self.inside.names in
    let name = owner_seen c.args.name in
    let test = has_name name in
    let found = c.find_named.ensures test (λ shown answer says. search rules) in
    subst (λ (o : RoomyOwnerRows). is_known name (owners_in o.rows) ≡ false) c.self.view_is
    (row_unknown name rows
    (sym (ap pair_seen c.in-None.is) ∙ found ∙ ap (λ h. pair_in (find (is_named h test) rows)) (c.requires.hash ∙ ap (λ (o : RoomyOwnerRows). name_hash o.names name) (sym c.self.view_is)) ∙ pair_found names name rows c.self.invariant.0))
