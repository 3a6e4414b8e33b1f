-- The places that the limits leave for an owner and for a state.
use Rattle.std.specs.Prelude.{ℕ, ◌+◌, nat_lt, Bool, ◌||◌, is_some, length}
use Rattle.nfs_locks.specs.AllLocks.{lock_count}
use Rattle.nfs_owners.specs.declared.owner.TheConstants.{OWNER_LIMIT}
use Rattle.nfs_owners.specs.declared.state_owner.StateOwner.{StateOwner}
use Rattle.nfs_share.specs.AllOpens.{delegation_count, open_count}
use Rattle.nfs_state.specs.Owners.{owner_of}
use Rattle.nfs_state.specs.State.{State}
use Rattle.nfs_state.specs.declared.limits.TheConstants.{STATE_LIMIT}

-- the owner is known, or there is a place for one more
abbrev pub has_owner_place : StateOwner → State → Bool
has_owner_place name state =
    is_some (owner_of name state.owners) || nat_lt (length state.owners) OWNER_LIMIT

-- how many states have a stateid
abbrev pub state_count : State → ℕ
state_count state =
    open_count state.opens + lock_count state.locks + delegation_count state.delegations

-- there is a place for one more open, lock state or delegation
abbrev pub has_state_place : State → Bool
has_state_place state = nat_lt (state_count state) STATE_LIMIT

-- there is a place for one more state beside so many others that come as well
abbrev pub has_state_place_beside : ℕ → State → Bool
has_state_place_beside others state = nat_lt (state_count state + others) STATE_LIMIT
