use Rattle.std.proofs.Common.{◌∙◌, ap, option_copied, subst, sym}
use Rattle.std.specs.List.{IsDistinct}
use Rattle.nfs_owners.specs.Records.{RoomyRecords, have_same_client}
use Rattle.nfs_owners.specs.Registry.{have_same_id}
use Rattle.nfs_owners.proofs.RecordRows.{none_with_id, without_its_id}
use Rattle.nfs_owners.proofs.clients.records.Records.remove_hash.Goals as goal

pub returns-in-Some-clause-records : goal.returns-in-Some-clause-records
returns-in-Some-clause-records c =
    let names = subst (λ (s : RoomyRecords). IsDistinct have_same_id s.records) c.self.view_is c.self.invariant.names in
    let clients = subst (λ (s : RoomyRecords). IsDistinct have_same_client s.records) c.self.view_is c.self.invariant.clients in
    c.remove_client.ensures.records ∙ without_its_id c.args.id.now c.args.self.now.records c.in-Some.record.now names clients c.in-Some.ensures

pub returns-in_default-clause-records : goal.returns-in_default-clause-records
returns-in_default-clause-records c = none_with_id c.args.id.now c.args.self.now.records (sym (ap option_copied c.in_default.is) ∙ c.of_hash.ensures)
