use Rattle.std.proofs.Common.{◌∙◌, ap, sym}
use Rattle.nfs_owners.specs.Records.{RoomyRecords, records_in}
use Rattle.nfs_owners.specs.Registry.{without_number}
use Rattle.nfs_owners.proofs.RecordRows.{none_of_client, records_less, rows_less}
use Rattle.nfs_owners.proofs.clients.records.Records.remove_client.Goals as goal

pub invariant_of-self : goal.invariant_of-self
invariant_of-self c =
    rows_less c.self.inside.ids c.self.inside.rows c.remove_row.new.rows c.self.inside.by_client c.swap_remove.new.self c.self.inside.newest c.self.inside.room c.in-Some.row c.args.number c.self.invariant
    c.in-Some.ensures.value c.remove_row.ensures.rows c.remove_row.ensures.room c.swap_remove.ensures.updates c.swap_remove.ensures.room.0

pub returns-in-Some-clause-records : goal.returns-in-Some-clause-records
returns-in-Some-clause-records c =
    ap records_in c.remove_row.ensures.rows
    ∙ records_less c.in-Some.row c.args.number c.self.inside.rows.rows c.self.invariant.order c.self.invariant.clients (c.in-Some.ensures.value ∙ c.self.invariant.index c.args.number)
    ∙ ap (λ (s : RoomyRecords). without_number c.args.number s.records) c.self.view_is

pub returns-in_default-clause-records : goal.returns-in_default-clause-records
returns-in_default-clause-records c =
    none_of_client c.args.number c.self.inside.rows.rows (sym c.in_default.is ∙ c.swap_remove.ensures.value ∙ c.self.invariant.index c.args.number)
    ∙ ap (λ (s : RoomyRecords). without_number c.args.number s.records) c.self.view_is
