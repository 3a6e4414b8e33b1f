use Rattle.std.proofs.Common.{◌∙◌, ap, find, sym, rules}
use Rattle.nfs_rows.specs.Rows.{is_named, pair_in, pair_seen}
use Rattle.nfs_rows.proofs.Callers.{none_beside, value_beside}
use Rattle.nfs_owners.specs.Owner.{has_name, owner_of}
use Rattle.nfs_owners.specs.OwnerRows.{RoomyOwnerRows, name_hash, owners_in}
use Rattle.nfs_owners.specs.StateOwner.{owner_seen}
use Rattle.nfs_owners.proofs.Filing.{owner_found}
use Rattle.nfs_owners.proofs.owner_rows.OwnerRows.find.Goals as goal

pub returns-in-Some : goal.returns-in-Some
returns-in-Some c =
    let rows = c.self.inside.rows.rows in
    let names = c.self.inside.names in
    let name = owner_seen c.args.name in
    let test = has_name name in
    let found = c.find_named.ensures test (λ shown answer says. search rules) in
    sym (value_beside (find (is_named (name_hash names name) test) rows) c.in-Some.field-0-0 c.in-Some.owner.now
    (sym (ap pair_seen c.in-Some.is) ∙ found ∙ ap (λ h. pair_in (find (is_named h test) rows)) c.hash.ensures))
    ∙ owner_found names name rows c.self.invariant.0
    ∙ ap (λ (o : RoomyOwnerRows). owner_of name (owners_in o.rows)) c.self.view_is

pub returns-in-None : goal.returns-in-None
returns-in-None c =
    let rows = c.self.inside.rows.rows in
    let names = c.self.inside.names in
    let name = owner_seen c.args.name in
    let test = has_name name in
    let found = c.find_named.ensures test (λ shown answer says. search rules) in
    sym (none_beside (find (is_named (name_hash names name) test) rows)
    (sym (ap pair_seen c.in-None.is) ∙ found ∙ ap (λ h. pair_in (find (is_named h test) rows)) c.hash.ensures))
    ∙ owner_found names name rows c.self.invariant.0
    ∙ ap (λ (o : RoomyOwnerRows). owner_of name (owners_in o.rows)) c.self.view_is
