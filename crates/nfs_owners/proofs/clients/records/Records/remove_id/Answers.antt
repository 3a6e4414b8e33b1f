use Rattle.std.proofs.Common.{◌∙◌, subst, sym}
use Rattle.std.specs.List.{IsDistinct}
use Rattle.nfs_owners.specs.Records.{RoomyRecords}
use Rattle.nfs_owners.specs.Registry.{have_same_id}
use Rattle.nfs_owners.proofs.RecordRows.{without_its_number}
use Rattle.nfs_owners.proofs.clients.records.Records.remove_id.Goals as goal

pub returns-in-Some-clause-records : goal.returns-in-Some-clause-records
returns-in-Some-clause-records c =
    let names = subst (λ (s : RoomyRecords). IsDistinct have_same_id s.records) c.self.view_is c.self.invariant.names in
    c.remove_client.ensures.records
    ∙ without_its_number c.args.id.now c.args.number c.args.self.now.records c.in-Some.record.now names c.in-Some.ensures.apart c.in-Some.ensures.found (sym c.is_of.ensures ∙ c.if-is_of.true)
