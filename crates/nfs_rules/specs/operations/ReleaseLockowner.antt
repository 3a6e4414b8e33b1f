-- RELEASE_LOCKOWNER (RFC 7530, section 16.37): forgets a lock owner that holds no byte.
use Rattle.std.specs.Prelude.{not, Option, Some, is_some, if◌then◌else◌}
use Rattle.nfs_forms.specs.declared.answer.Answer.TheVariants.{Done, Refused}
use Rattle.nfs_forms.specs.declared.status.Refusal.{Refusal}
use Rattle.nfs_forms.specs.declared.status.Refusal.TheVariants as refusals
use Rattle.nfs_locks.specs.AllLocks.{holds}
use Rattle.nfs_operations.specs.declared.release_lockowner.ReleaseLockowner.{ReleaseLockowner}
use Rattle.nfs_owners.specs.Registry.{record_of}
use Rattle.nfs_rules.specs.declared.decision.Decision.{Decision}
use Rattle.nfs_state.specs.Changes.{change_alone}
use Rattle.nfs_state.specs.State.{State}
use Rattle.nfs_state.specs.declared.change.Change.TheVariants.{Nothing, Releases}
use Rattle.nfs_xdr.specs.declared.op_result.OpResult.TheVariants as results

abbrev pub refusal_of : Refusal → Decision
refusal_of refusal = record {
  answer = results.ReleaseLockowner (Refused refusal);
  effect = change_alone Nothing;
}

-- NFS4ERR_STALE_CLIENTID for an owner whose client isn't known, NFS4ERR_LOCKS_HELD for one that holds a byte of a file.
-- Otherwise the owner is forgotten with its lock states; one that isn't known is forgotten already.
abbrev pub decision_of : State → ReleaseLockowner → Decision
decision_of state args =
    if not (is_some (record_of args.owner.client state.clients))
    then refusal_of refusals.StaleClientId
    else if holds args.owner state.locks then refusal_of refusals.LocksHeld
    else record {
      answer = results.ReleaseLockowner (Done tt);
      effect = change_alone (Releases args.owner);
    }

-- the rule of RELEASE_LOCKOWNER, which needs no filehandle; there is always a decision
abbrev pub rule : State → ReleaseLockowner → Option Decision
rule state args = Some (decision_of state args)
