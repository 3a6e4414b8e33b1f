use Rattle.std.proofs.Common.{◌∙◌, ap, find, option_copied, subst, sym}
use Rattle.std.specs.List.{IsDistinct}
use Rattle.nfs_owners.specs.Records.{RoomyRecords, have_same_client}
use Rattle.nfs_owners.specs.Registry.{is_of_client}
use Rattle.nfs_owners.proofs.RecordRows.{client_found, no_client}
use Rattle.nfs_owners.proofs.clients.records.Records.of_client.Goals as goal

pub returns-in_err-row-clause-found : goal.returns-in_err-row-clause-found
returns-in_err-row-clause-found c =
    ap option_copied c.from_residual.ensures
    ∙ sym (no_client c.args.number c.self.inside.rows.rows (c.in_err-row.ensures.value ∙ c.self.invariant.index c.args.number))
    ∙ ap (λ (s : RoomyRecords). find (is_of_client c.args.number) s.records) c.self.view_is

pub returns-clause-found : goal.returns-clause-found
returns-clause-found c =
    c.find.ensures
    ∙ client_found c.in_ok-row.field-0.now c.args.number c.self.inside.rows.rows c.self.invariant.order (c.in_ok-row.ensures.value ∙ c.self.invariant.index c.args.number)
    ∙ ap (λ (s : RoomyRecords). find (is_of_client c.args.number) s.records) c.self.view_is

pub returns-in_err-row-clause-apart : goal.returns-in_err-row-clause-apart
returns-in_err-row-clause-apart c = subst (λ (s : RoomyRecords). IsDistinct have_same_client s.records) c.self.view_is c.self.invariant.clients

pub returns-clause-apart : goal.returns-clause-apart
returns-clause-apart c = subst (λ (s : RoomyRecords). IsDistinct have_same_client s.records) c.self.view_is c.self.invariant.clients
