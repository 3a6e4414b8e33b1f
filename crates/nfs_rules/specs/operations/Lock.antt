-- LOCK (RFC 7530, section 16.10): holds bytes of a file for a lock owner.
use Rattle.std.specs.Prelude.{◌≡◌, ℕ, ◌+◌, Bool, true, false, not, ◌&&◌, Option, Some, None, is_some, Result, Ok, Err, if◌then◌else◌}
use Rattle.nfs_forms.specs.ClientId.{is_same_client}
use Rattle.nfs_forms.specs.declared.answer.Answer.TheVariants.{Done, Denied, Refused}
use Rattle.nfs_forms.specs.declared.lock_owner.LockOwner.{LockOwner}
use Rattle.nfs_forms.specs.declared.stateid.Stateid.{Stateid}
use Rattle.nfs_forms.specs.declared.status.Refusal.{Refusal}
use Rattle.nfs_forms.specs.declared.status.Refusal.TheVariants as refusals
use Rattle.nfs_locks.specs.AllLocks.{LockAt, is_full_for, locks_of}
use Rattle.nfs_locks.specs.Locks.{ByteLocks, lock_of, next_stateid_of}
use Rattle.nfs_locks.specs.Report.{IsReport, Report}
use Rattle.nfs_operations.specs.declared.lock.Lock.{Lock}
use Rattle.nfs_forms.specs.declared.locker.Locker.{Locker}
use Rattle.nfs_forms.specs.declared.locker.Locker.TheVariants as lockers
use Rattle.nfs_forms.specs.declared.locker.NewLocker.{NewLocker}
use Rattle.nfs_owners.specs.StateOwner.{lock_owner}
use Rattle.nfs_ranges.specs.Bytes.{IsRangeOf}
use Rattle.nfs_ranges.specs.declared.mode.Mode.{Mode}
use Rattle.nfs_ranges.specs.declared.mode.Mode.TheVariants as modes
use Rattle.nfs_ranges.specs.declared.range.Range.{Range}
use Rattle.nfs_rules.specs.Locking.{denied_by, lock_of_bytes, mode_of}
use Rattle.nfs_rules.specs.Newcomers.{has_turn}
use Rattle.nfs_rules.specs.Refusing.{◌>>=◌, refused_if}
use Rattle.nfs_rules.specs.Sequences.{Own}
use Rattle.nfs_rules.specs.Stateids.{as_lock, as_open, confirmed_open, lock_state, verdict}
use Rattle.nfs_rules.specs.declared.ruling.Ruling.{Ruling}
use Rattle.nfs_share.specs.AllOpens.{OpenAt, opens_of}
use Rattle.nfs_share.specs.Opens.{open_with_number, share_of}
use Rattle.nfs_share.specs.declared.open_state.OpenState.{OpenState}
use Rattle.nfs_state.specs.Places.{has_owner_place, has_state_place}
use Rattle.nfs_state.specs.State.{State, History}
use Rattle.nfs_state.specs.declared.change.Change.TheVariants.{Nothing, Begins, Locks}
use Rattle.nfs_xdr.specs.declared.op_result.OpResult.TheVariants as results

abbrev pub refusal_of : Refusal → Ruling
refusal_of refusal = record { answer = results.Lock (Refused refusal); change = Nothing }

-- For whom bytes of a node's file are to be held and in which mode, under which open, and the lock state that they are
-- added to, if there is one.
pub record Locking : Type 0 where
  pub node : ℕ
  pub owner : LockOwner
  pub mode : Mode
  pub open_number : ℕ
  pub state : Option ByteLocks

-- A new lock owner under an open: NFS4ERR_INVAL for one of another client than the open's; NFS4ERR_BAD_SEQID for one
-- that has a lock state of the file already, and for one that is known and whose next id isn't lock_seqid.
abbrev pub introduction : History → State → Lock → NewLocker → OpenAt → Result Locking Refusal
introduction journal state args locker at =
    refused_if args.reclaim refusals.NoGrace at >>= λ at.
    refused_if (not (is_same_client locker.lock_owner.client at.state.owner.client))
    refusals.Inval at >>= λ at.
    refused_if (is_some (lock_of locker.lock_owner (locks_of at.node state.locks)))
    refusals.BadSeqId at >>= λ at.
    refused_if (not (has_turn journal state locker)) refusals.BadSeqId (record {
      node = at.node;
      owner = locker.lock_owner;
      mode = mode_of args.locktype;
      open_number = at.state.number;
      state = None;
    })

-- a lock state that is there, which has its open
abbrev pub locking_of_state : Lock → LockAt → Result Locking Refusal
locking_of_state args at = refused_if args.reclaim refusals.NoGrace (record {
  node = at.node;
  owner = at.state.owner;
  mode = mode_of args.locktype;
  open_number = at.state.open_number;
  state = Some at.state;
})

-- What a LOCK under this filehandle is to hold, or the first refusal. A new lock owner comes with an open's stateid,
-- one that has a lock state of the file with that one's. Nothing can be reclaimed, since the server keeps no state from
-- one run to the next: NFS4ERR_NO_GRACE.
abbrev pub locking_of : History → State → ℕ → Lock → Locker → Result Locking Refusal
locking_of journal state node args (lockers.New locker) =
    verdict (confirmed_open node) journal.epoch state locker.open_stateid >>= as_open >>= λ at.
    introduction journal state args locker at
locking_of journal state node args (lockers.Known locker) =
    verdict (lock_state node) journal.epoch state locker.lock_stateid >>= as_lock >>= λ at.
    locking_of_state args at

-- the open, as it is now, may do what a lock in the mode is for
abbrev pub allows : Mode → Option OpenState → Bool
allows mode None = false
allows modes.Read (Some o) = (share_of o).access.read
allows modes.Write (Some o) = (share_of o).access.write

-- the stateid of the owner's first lock of a file
abbrev pub first_stateid : State → LockOwner → Stateid
first_stateid state owner =
    record { seqid = 1; client = owner.client; number = state.last_state + 1 }

-- a lock state begins, unless the owners or the states would be too many
abbrev pub beginning : State → Locking → Range → Option Ruling
beginning state locking range =
    if has_owner_place (lock_owner locking.owner) state && has_state_place state
    then Some (record {
      answer = results.Lock (Done (first_stateid state locking.owner));
      change = Begins locking.node (record {
        owner = locking.owner;
        open_number = locking.open_number;
        change = lock_of_bytes locking.mode range;
      });
    })
    else None

-- the lock state gains the bytes, unless its runs would be too many, and its stateid comes back with the next seqid
abbrev pub addition : State → Locking → Range → ByteLocks → Option Ruling
addition state locking range l =
    let change = lock_of_bytes locking.mode range in
    if is_full_for l.number change (locks_of locking.node state.locks) then None
    else Some (record {
      answer = results.Lock (Done (next_stateid_of l));
      change = Locks locking.node l.number change;
    })

abbrev pub grant : State → Locking → Range → Option ByteLocks → Option Ruling
grant state locking range None = beginning state locking range
grant state locking range (Some l) = addition state locking range l

-- NFS4ERR_DENIED, with a report, if another owner's lock is in the way
abbrev pub unless_denied : State → Locking → Range → Option Report → Option Ruling
unless_denied state locking range None = grant state locking range locking.state
unless_denied state locking range (Some report) =
    Some (record { answer = results.Lock (Denied (denied_by report)); change = Nothing })

-- NFS4ERR_OPENMODE for what the open may not do
abbrev pub IsAllowed : Bool → State → Locking → Range → Option Ruling → Type 0
IsAllowed false state locking range ruling = ruling ≡ Some (refusal_of refusals.OpenMode)
IsAllowed true state locking range ruling =
    (report : Option Report)
    × IsReport (locks_of locking.node state.locks) locking.owner range locking.mode report
    × (ruling ≡ unless_denied state locking range report)

-- NFS4ERR_INVAL for an offset and a length that name no bytes
abbrev pub IsOfRange : State → Locking → Option Range → Option Ruling → Type 0
IsOfRange state locking None ruling = ruling ≡ Some (refusal_of refusals.Inval)
IsOfRange state locking (Some range) ruling =
    IsAllowed (allows locking.mode
    (open_with_number locking.open_number (opens_of locking.node state.opens)))
    state locking range ruling

abbrev pub IsLock : State → Lock → Result Locking Refusal → Option Ruling → Type 0
IsLock state args (Err refusal) ruling = ruling ≡ Some (refusal_of refusal)
IsLock state args (Ok locking) ruling =
    (range : Option Range) × IsRangeOf args.offset args.length range
    × IsOfRange state locking range ruling

-- the rule of LOCK under the current filehandle; no ruling if a limit would be exceeded
abbrev pub own : History → State → Lock → Own
own journal state args request node passage ruling =
    IsLock state args (locking_of journal state node args args.locker) ruling
