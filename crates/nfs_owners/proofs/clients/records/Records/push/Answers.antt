use Rattle.std.proofs.Common.{◌≡◌, ◌∙◌, ◌+◌, ◌<◌, false, ap, arith, refl, subst, sym}
use Rattle.std.specs.List.{list_any}
use Rattle.nfs_rows.specs.Rows.{Row}
use Rattle.nfs_rows.specs.NameHash.{hash_of}
use Rattle.nfs_owners.specs.Records.{RoomyRecords}
use Rattle.nfs_owners.specs.Registry.{is_of, is_of_client}
use Rattle.nfs_owners.specs.declared.client_record.ClientRecord.{ClientRecord}
use Rattle.nfs_owners.proofs.RecordRows.{on_ok, rows_more}
use Rattle.nfs_owners.proofs.clients.records.Records.push.Goals as goal

pub invariant_of-self : goal.invariant_of-self
invariant_of-self c =
    let self = c.self.inside in
    let r = c.args.newcomer in
    let row : Row ClientRecord = record { number = self.newest + 1; hash = c.args.hash; client = r.state.client.number; value = r } in
    let unnamed = subst (λ (s : RoomyRecords). list_any (is_of r.id) s.records ≡ false) (sym c.self.view_is) c.requires.name in
    let unknown = subst (λ (s : RoomyRecords). list_any (is_of_client r.state.client.number) s.records ≡ false) (sym c.self.view_is) c.requires.client in
    let some : 0 < self.room = subst (λ (s : RoomyRecords). 0 < s.room) (sym c.self.view_is) c.requires.room in
    let hashed = c.requires.hash ∙ ap (λ (s : RoomyRecords). hash_of s.ids 0 0 r.id) (sym c.self.view_is) in
    let updates = on_ok c.insert.result _ (c.insert.ensures.succeeds (omega (arith, some, c.self.invariant.in_index))) c.insert.ensures.updates in
    rows_more self.ids self.rows c.add.new.self self.by_client c.insert.new.self self.newest self.room (self.newest + 1) _ row c.self.invariant unnamed unknown hashed refl (omega (arith, some)) refl
    c.add.ensures.rows c.add.ensures.room updates c.insert.ensures.spare
