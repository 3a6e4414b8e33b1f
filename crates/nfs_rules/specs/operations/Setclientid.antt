-- SETCLIENTID (RFC 7530, section 16.33.5): its answer, and its change of the clients' records.
use Rattle.std.specs.Prelude.{Option, option_map}
use Rattle.nfs_state.specs.declared.change.Change.TheVariants.{Clients}
use Rattle.nfs_owners.specs.declared.clients.client_change.ClientChange.{ClientChange}
use Rattle.nfs_rules.specs.declared.decision.Decision.{Decision}
use Rattle.nfs_state.specs.declared.request.Request.{Request}
use Rattle.nfs_owners.specs.Registration.{Outcome, registration}
use Rattle.nfs_owners.specs.Registry.{confirmed_of, record_state}
use Rattle.nfs_state.specs.Changes.{change_alone}
use Rattle.nfs_state.specs.State.{State, History, record_has_state}
use Rattle.nfs_xdr.specs.declared.op_result.OpResult.TheVariants as results
use Rattle.nfs_operations.specs.declared.setclientid.Setclientid.{Setclientid}

-- the answer and the change of the clients' records, as a decision
abbrev pub decision_of : Outcome × ClientChange → Decision
decision_of outcome = record {
  answer = results.Setclientid outcome.0;
  effect = change_alone (Clients outcome.1);
}

-- The rule of SETCLIENTID. It depends on whether the client of the confirmed record with the id has state.
abbrev pub rule : History → State → Request → Setclientid → Option Decision
rule journal state request args =
    let holder = record_state (confirmed_of state.clients args.id) in
    let has_state = record_has_state state holder in
    option_map decision_of
    (registration journal.epoch has_state state.clients request.principal args)
