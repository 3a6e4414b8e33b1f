-- SETCLIENTID_CONFIRM (RFC 7530, section 16.34.5): its answer, and its change of the clients' records.
use Rattle.std.specs.Prelude.{Option, Some}
use Rattle.nfs_state.specs.declared.change.Change.TheVariants.{Clients}
use Rattle.nfs_owners.specs.declared.client_record.PathMark.{PathMark}
use Rattle.nfs_owners.specs.declared.client_record.PathMark.TheVariants.{Unknown, Up}
use Rattle.nfs_owners.specs.declared.clients.client_change.ClientChange.{ClientChange}
use Rattle.nfs_rules.specs.declared.decision.Decision.{Decision}
use Rattle.nfs_state.specs.declared.request.Request.{Request}
use Rattle.nfs_owners.specs.Confirmation.{Outcome, confirmation, holder_of}
use Rattle.nfs_owners.specs.Registry.{record_state, unconfirmed_named_by}
use Rattle.nfs_state.specs.Changes.{change_alone}
use Rattle.nfs_state.specs.State.{State, History, record_has_state}
use Rattle.nfs_tree.specs.declared.policy.Callbacks.{Callbacks}
use Rattle.nfs_tree.specs.declared.policy.Callbacks.TheVariants.{Probe, Assume}
use Rattle.nfs_xdr.specs.declared.op_result.OpResult.TheVariants as results
use Rattle.nfs_operations.specs.declared.setclientid_confirm.SetclientidConfirm.{SetclientidConfirm}

-- the mark that the policy gives the path of a client that is confirmed by this call
abbrev pub path_of : Callbacks → PathMark
path_of Probe = Unknown
path_of Assume = Up

-- the answer and the change of the clients' records, as a decision
abbrev pub decision_of : Outcome × ClientChange → Decision
decision_of outcome = record {
  answer = results.SetclientidConfirm outcome.0;
  effect = change_alone (Clients outcome.1);
}

-- The rule of SETCLIENTID_CONFIRM. It depends on whether the client that would be replaced has state.
abbrev pub rule : History → State → Request → SetclientidConfirm → Option Decision
rule journal state request args =
    let path = path_of journal.policy.callbacks in
    let holder = holder_of (unconfirmed_named_by args state.clients) state.clients in
    let has_state = record_has_state state (record_state holder) in
    Some (decision_of (confirmation path has_state state.clients request.principal args))
