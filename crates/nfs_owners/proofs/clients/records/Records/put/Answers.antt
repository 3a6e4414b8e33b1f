use Rattle.std.proofs.Common.{◌∙◌, ap}
use Rattle.std.specs.List.{list_any}
use Rattle.nfs_owners.specs.Registry.{is_of, is_of_client, without_id}
use Rattle.nfs_owners.proofs.RecordRows.{none_named, none_numbered}
use Rattle.nfs_owners.proofs.clients.records.Records.put.Goals as goal

pub push-requires-clause-name : goal.push-requires-clause-name
push-requires-clause-name c =
    let r = c.args.newcomer in
    let records = c.args.self.now.records in
    ap (list_any (is_of r.id)) (c.remove_hash.ensures.records ∙ ap (λ i. without_id i records) c.as_slice-id.ensures.value) ∙ none_named r.id records

pub push-requires-clause-client : goal.push-requires-clause-client
push-requires-clause-client c =
    let r = c.args.newcomer in
    let records = c.args.self.now.records in
    ap (list_any (is_of_client r.state.client.number)) (c.remove_hash.ensures.records ∙ ap (λ i. without_id i records) c.as_slice-id.ensures.value)
    ∙ none_numbered r.id r.state.client.number records c.requires.own
