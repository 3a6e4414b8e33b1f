-- DELEGRETURN (RFC 7530, section 16.6): gives a delegation back.
use Rattle.std.specs.Prelude.{ℕ, Option, Some, Result, Ok, Err}
use Rattle.nfs_forms.specs.declared.answer.Answer.TheVariants.{Done, Refused}
use Rattle.nfs_forms.specs.declared.status.Refusal.{Refusal}
use Rattle.nfs_operations.specs.declared.delegreturn.Delegreturn.{Delegreturn}
use Rattle.nfs_rules.specs.Refusing.{◌>>=◌}
use Rattle.nfs_rules.specs.Stateids.{as_delegation, delegation, verdict}
use Rattle.nfs_rules.specs.declared.decision.Decision.{Decision}
use Rattle.nfs_rules.specs.operations.Lockt.{place_of}
use Rattle.nfs_share.specs.AllOpens.{DelegationAt}
use Rattle.nfs_state.specs.Changes.{change_alone}
use Rattle.nfs_state.specs.State.{State, History}
use Rattle.nfs_state.specs.declared.change.Change.TheVariants.{Nothing, Returns}
use Rattle.nfs_xdr.specs.declared.op_result.OpResult.TheVariants as results

-- the delegation that is given back goes
abbrev pub returning : Result DelegationAt Refusal → Decision
returning (Err refusal) = record {
  answer = results.Delegreturn (Refused refusal);
  effect = change_alone Nothing;
}
returning (Ok at) = record {
  answer = results.Delegreturn (Done tt);
  effect = change_alone (Returns at.node at.state.number);
}

-- the delegation that is given back, or the first refusal: NFS4ERR_NOFILEHANDLE, and then the verdict on the stateid
abbrev pub delegation_at : History → State → Option ℕ → Delegreturn → Result DelegationAt Refusal
delegation_at journal state filehandle args =
    place_of filehandle >>= λ node.
    verdict (delegation node) journal.epoch state args.stateid >>= as_delegation

-- the rule of DELEGRETURN; there is always a decision
abbrev pub rule : History → State → Option ℕ → Delegreturn → Option Decision
rule journal state filehandle args =
    Some (returning (delegation_at journal state filehandle args))
