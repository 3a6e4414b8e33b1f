-- LOCKU (RFC 7530, section 16.12): frees bytes that a lock owner holds, and leaves all others.
use Rattle.std.specs.Prelude.{◌≡◌, Option, Some, None, Result, Ok, Err, if◌then◌else◌}
use Rattle.nfs_forms.specs.declared.answer.Answer.TheVariants.{Done, Refused}
use Rattle.nfs_forms.specs.declared.status.Refusal.{Refusal}
use Rattle.nfs_forms.specs.declared.status.Refusal.TheVariants.{Inval}
use Rattle.nfs_locks.specs.AllLocks.{LockAt, is_full_for, locks_of}
use Rattle.nfs_locks.specs.Locks.{next_stateid_of}
use Rattle.nfs_operations.specs.declared.locku.Locku.{Locku}
use Rattle.nfs_ranges.specs.Bytes.{IsRangeOf}
use Rattle.nfs_ranges.specs.declared.range.Range.{Range}
use Rattle.nfs_rules.specs.Locking.{unlock_of_bytes}
use Rattle.nfs_rules.specs.Sequences.{Own}
use Rattle.nfs_rules.specs.Refusing.{◌>>=◌}
use Rattle.nfs_rules.specs.Stateids.{as_lock, lock_state, verdict}
use Rattle.nfs_rules.specs.declared.ruling.Ruling.{Ruling}
use Rattle.nfs_state.specs.State.{State, History}
use Rattle.nfs_state.specs.declared.change.Change.TheVariants.{Nothing, Locks}
use Rattle.nfs_xdr.specs.declared.op_result.OpResult.TheVariants as results

abbrev pub refusal_of : Refusal → Ruling
refusal_of refusal = record { answer = results.Locku (Refused refusal); change = Nothing }

-- NFS4ERR_INVAL for an offset and a length that name no bytes. Otherwise the lock state holds none of the bytes,
-- whether it held them or not, and its stateid comes back with the next seqid; no ruling if its runs would be too many.
abbrev pub unlocking : State → LockAt → Option Range → Option Ruling
unlocking state at None = Some (refusal_of Inval)
unlocking state at (Some range) =
    if is_full_for at.state.number (unlock_of_bytes range) (locks_of at.node state.locks) then None
    else Some (record {
      answer = results.Locku (Done (next_stateid_of at.state));
      change = Locks at.node at.state.number (unlock_of_bytes range);
    })

abbrev pub IsUnlock : State → Locku → Result LockAt Refusal → Option Ruling → Type 0
IsUnlock state args (Err refusal) ruling = ruling ≡ Some (refusal_of refusal)
IsUnlock state args (Ok at) ruling =
    (range : Option Range) × IsRangeOf args.offset args.length range
    × (ruling ≡ unlocking state at range)

-- The rule of LOCKU under the current filehandle: the stateid has to name a lock state there. The type of the lock
-- isn't used.
abbrev pub own : History → State → Locku → Own
own journal state args request node passage ruling =
    IsUnlock state args
    (verdict (lock_state node) journal.epoch state args.stateid >>= as_lock) ruling
