use Rattle.std.proofs.Common.{◌∙◌, ap, map, option_copied, subst, sym}
use Rattle.std.specs.Option.{option_copied_mut}
use Rattle.nfs_rows.proofs.Callers.{with_value_is}
use Rattle.nfs_owners.specs.Records.{AreRows, RoomyRecords, records_in}
use Rattle.nfs_owners.specs.Registry.{after_mark}
use Rattle.nfs_owners.proofs.RecordRows.{client_found, marked, no_client, none_marked, records_marked, rows_marked}
use Rattle.nfs_owners.proofs.clients.records.Records.mark.Goals as goal

pub invariant_of-self : goal.invariant_of-self
invariant_of-self c =
    let self = c.self.inside in
    let row = c.in-Some.row.now in
    let is = c.in-Some.ensures.value ∙ c.self.invariant.index c.args.number in
    subst (λ rs. AreRows self.ids (record { rows = rs; room = self.rows.room }) self.by_client self.newest self.room)
    (sym (with_value_is row (marked c.args.path) c.in-Some-find_mut.record.now self.rows.rows c.self.invariant.order c.in-Some-find_mut.ensures.value))
    (rows_marked self.ids self.rows self.by_client self.newest self.room row c.args.number c.args.path c.self.invariant is)

pub returns-in-Some-find_mut-clause-records : goal.returns-in-Some-find_mut-clause-records
returns-in-Some-find_mut-clause-records c =
    let self = c.self.inside in
    let row = c.in-Some.row.now in
    let is = c.in-Some.ensures.value ∙ c.self.invariant.index c.args.number in
    ap records_in (with_value_is row (marked c.args.path) c.in-Some-find_mut.record.now self.rows.rows c.self.invariant.order c.in-Some-find_mut.ensures.value)
    ∙ records_marked row c.args.number c.args.path self.rows.rows c.self.invariant.order c.self.invariant.clients is
    ∙ ap (λ (s : RoomyRecords). map (after_mark c.args.number c.args.path) s.records) c.self.view_is

pub returns-in_default-find_mut-clause-records : goal.returns-in_default-find_mut-clause-records
returns-in_default-find_mut-clause-records c =
    let rows = c.self.inside.rows.rows in
    let is = c.in-Some.ensures.value ∙ c.self.invariant.index c.args.number in
    none_marked c.args.number c.args.path (records_in rows) (sym (client_found c.in-Some.row.now c.args.number rows c.self.invariant.order is) ∙ sym c.find_mut.ensures.value ∙ ap option_copied_mut c.in_default-find_mut.is)
    ∙ ap (λ (s : RoomyRecords). map (after_mark c.args.number c.args.path) s.records) c.self.view_is

pub returns-in_default-clause-records : goal.returns-in_default-clause-records
returns-in_default-clause-records c =
    let rows = c.self.inside.rows.rows in
    sym (ap (λ (s : RoomyRecords). s.records) c.self.view_is)
    ∙ none_marked c.args.number c.args.path (records_in rows) (no_client c.args.number rows (sym (ap option_copied c.in_default.is) ∙ c.get.ensures.value ∙ c.self.invariant.index c.args.number))
    ∙ ap (λ (s : RoomyRecords). map (after_mark c.args.number c.args.path) s.records) c.self.view_is
