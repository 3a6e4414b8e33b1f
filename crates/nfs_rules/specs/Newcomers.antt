-- Lock owners that a LOCK introduces (RFC 7530, sections 9.1.7 and 16.10.5): such a LOCK has a sequence id for the
-- owner of its stateid, and another one for the lock owner.
use Rattle.std.specs.Prelude.{ℕ, Bool, true, false, Option, Some, None, if◌then◌else◌}
use Rattle.nfs_forms.specs.ClientId.{is_same_client}
use Rattle.nfs_forms.specs.declared.client_id.ClientId.{ClientId}
use Rattle.nfs_forms.specs.declared.lock_owner.LockOwner.{LockOwner}
use Rattle.nfs_forms.specs.declared.locker.Locker.{Locker}
use Rattle.nfs_forms.specs.declared.locker.Locker.TheVariants as lockers
use Rattle.nfs_forms.specs.declared.locker.NewLocker.{NewLocker}
use Rattle.nfs_owners.specs.Kept.{Kept, precedes}
use Rattle.nfs_owners.specs.StateOwner.{lock_owner}
use Rattle.nfs_state.specs.Kept.{kept_for}
use Rattle.nfs_state.specs.Owners.{KnownOwner, owner_of}
use Rattle.nfs_state.specs.State.{State, History}
use Rattle.nfs_xdr.specs.declared.op.Op.{Op}
use Rattle.nfs_xdr.specs.declared.op.Op.TheVariants as ops

-- the lock owner that a request introduces
pub data Newcomer : Type 0 where
  -- There is none, or the request isn't for its account: it is of another client than the owner of the stateid, or it
  -- is known and its sequence id isn't the next one.
  Nobody : Newcomer
  -- the lock owner is known, and its sequence id is the next one
  Known : LockOwner → Newcomer
  Unknown : LockOwner → Newcomer

-- the sequence id is the next one after what is kept
abbrev pub is_next : ℕ → Option Kept → Bool
is_next seqid None = false
is_next seqid (Some kept) = precedes kept seqid

-- by what is known of the lock owner
abbrev pub newcomer_if : History → NewLocker → Option KnownOwner → Newcomer
newcomer_if journal locker None = Unknown locker.lock_owner
newcomer_if journal locker (Some o) =
    if is_next locker.lock_seqid (kept_for journal o) then Known locker.lock_owner else Nobody

-- the newcomer among the lock owners, whichever client it is of
abbrev pub newcomer_by : History → State → NewLocker → Newcomer
newcomer_by journal state locker =
    newcomer_if journal locker (owner_of (lock_owner locker.lock_owner) state.owners)

abbrev pub newcomer_in : History → State → ClientId → Locker → Newcomer
newcomer_in journal state client (lockers.Known locker) = Nobody
newcomer_in journal state client (lockers.New locker) =
    if is_same_client locker.lock_owner.client client then newcomer_by journal state locker
    else Nobody

-- the newcomer of a request of an owner of this client
abbrev pub newcomer_of : History → State → ClientId → Op → Newcomer
newcomer_of journal state client (ops.Lock args) = newcomer_in journal state client args.locker
newcomer_of journal state client op = Nobody

abbrev is_somebody : Newcomer → Bool
is_somebody Nobody = false
is_somebody newcomer = true

-- it is the lock owner's turn: it isn't known, or the request is its next one
abbrev pub has_turn : History → State → NewLocker → Bool
has_turn journal state locker = is_somebody (newcomer_by journal state locker)
