-- CLOSE (RFC 7530, section 16.2): frees an open.
use Rattle.std.specs.Prelude.{◌≡◌, Some, Result, Ok, Err, if◌then◌else◌}
use Rattle.nfs_state.specs.declared.change.Change.TheVariants.{Nothing, Closes}
use Rattle.nfs_rules.specs.declared.ruling.Ruling.{Ruling}
use Rattle.nfs_rules.specs.Sequences.{Own}
use Rattle.nfs_rules.specs.Refusing.{◌>>=◌}
use Rattle.nfs_rules.specs.Stateids.{as_open, confirmed_open, verdict}
use Rattle.nfs_state.specs.State.{State, History}
use Rattle.nfs_share.specs.AllOpens.{OpenAt}
use Rattle.nfs_share.specs.Opens.{next_stateid_of}
use Rattle.nfs_forms.specs.declared.answer.Answer.TheVariants.{Done, Refused}
use Rattle.nfs_xdr.specs.declared.op_result.OpResult.TheVariants as results
use Rattle.nfs_operations.specs.declared.close.Close.{Close}
use Rattle.nfs_forms.specs.declared.status.Refusal.{Refusal}
use Rattle.nfs_forms.specs.declared.status.Refusal.TheVariants.{LocksHeld}
use Rattle.nfs_locks.specs.AllLocks.{locks_of}
use Rattle.nfs_locks.specs.Locks.{holds_under}
use Rattle.nfs_tree.specs.declared.policy.CloseLocks.{CloseLocks}
use Rattle.nfs_tree.specs.declared.policy.CloseLocks.TheVariants as policies

-- the open is freed, and its stateid comes back with the next seqid
abbrev pub closing : Result OpenAt Refusal → Ruling
closing (Err refusal) = record { answer = results.Close (Refused refusal); change = Nothing }
closing (Ok at) = record {
  answer = results.Close (Done (next_stateid_of at.state));
  change = Closes at.node at.state.number;
}

-- Under this policy bytes that are locked under the open go free with it, or are in its way.
abbrev pub unless_held : CloseLocks → State → OpenAt → Result OpenAt Refusal
unless_held policies.Free state at = Ok at
unless_held policies.Refuse state at =
    if holds_under at.state.number (locks_of at.node state.locks) then Err LocksHeld else Ok at

-- The rule of CLOSE under the current filehandle: the stateid has to name an open of a confirmed owner there. Then it
-- is NFS4ERR_LOCKS_HELD where the policy is to refuse and a lock state under the open holds a byte.
abbrev pub own : History → State → Close → Own
own journal state args request node passage ruling =
    ruling ≡ Some (closing
    (verdict (confirmed_open node) journal.epoch state args.stateid >>= as_open
    >>= unless_held journal.policy.close_locks state))
