-- What the tables store, and the memory and the numbers that a change of them needs.
use Rattle.std.specs.Prelude.{◌≢◌, ◌<◌, ◌≤◌, ◌+◌, ◌-◌, ◌^◌, ⊤, None, Bool, IsFalse, IsTrue, is_some, length}
use Rattle.nfs_state.specs.declared.change.Change.{Change}
use Rattle.nfs_state.specs.declared.change.Change.TheVariants as changes
use Rattle.nfs_state.specs.declared.file_change.FileChange.TheVariants.{Writes, Cuts}
use Rattle.nfs_state.specs.declared.effect.Effect.{Effect}
use Rattle.nfs_state.specs.declared.entry.Entry.{Entry}
use Rattle.nfs_state.specs.declared.owner_change.OwnerChange.{OwnerChange}
use Rattle.nfs_state.specs.declared.owner_change.OwnerChange.TheVariants as owner_changes
use Rattle.nfs_state.specs.declared.tables.Tables.{Tables}
use Rattle.nfs_state.specs.declared.owner_update.OwnerUpdate.{OwnerUpdate}
use Rattle.nfs_state.specs.declared.owner_update.OwnerUpdate.TheVariants as updates
use Rattle.nfs_state.specs.Kept.{CanBeKept, kept_in}
use Rattle.nfs_state.specs.Files.{HasFileRoom, files_in}
use Rattle.nfs_state.specs.Owners.{owner_of}
use Rattle.nfs_owners.specs.Owner as owners
use Rattle.nfs_locks.specs.AllLocks.{HasLockRoomAt, is_full_for, locks_of, stored_in}
use Rattle.nfs_locks.specs.AllLocks as locks
use Rattle.nfs_owners.specs.Owners.{RoomyOwners, has_place}
use Rattle.nfs_owners.specs.StateOwner.{open_owner}
use Rattle.nfs_owners.specs.declared.state_owner.StateOwner.{StateOwner}
use Rattle.nfs_owners.specs.declared.owner.TheConstants.{OWNER_LIMIT}
use Rattle.nfs_state.specs.MemoryCount.{IsNoCall}
use Rattle.nfs_state.specs.State.{State}
use Rattle.nfs_state.specs.Stored.{Stored, meaning}
use Rattle.nfs_owners.specs.ClientRoom.{FitsRecords, HasNumbersFor, HasRoomFor}
use Rattle.nfs_share.specs.AllOpens.{HasLendingRoomAt, HasRoomAt, delegations_in, opens_in}
use Rattle.nfs_share.specs.AllOpens as opens
use Rattle.nfs_tree.specs.declared.tree.TheConstants.{TEXT_LIMIT}

-- what the tables store, no matter how much room they have
abbrev pub stored_of : Tables → Stored
stored_of tables = record {
  clients = tables.clients.registry;
  owners = tables.owners.owners;
  opens = opens_in tables.opens;
  locks = stored_in tables.locks;
  delegations = delegations_in tables.opens;
  last_state = tables.numbers;
  files = files_in tables.files;
}

-- the state that the tables represent
abbrev pub state_of : Tables → State
state_of tables = meaning (stored_of tables)

-- the change takes no memory
abbrev pub HasRoom : Change → Tables → Type 0
HasRoom (changes.Clients change) tables = HasRoomFor change tables.clients
HasRoom (changes.Opens node owner share lent) tables =
    HasRoomAt node tables.opens × (lent ≢ None → HasLendingRoomAt node tables.opens)
HasRoom (changes.Begins node first) tables = HasLockRoomAt node tables.locks
HasRoom (changes.Locks node number change) tables = locks.HasRoomFor node number tables.locks
HasRoom (changes.Writes node offset bytes) tables =
    HasFileRoom node (Writes offset bytes) tables.files
HasRoom (changes.Cuts node size) tables = HasFileRoom node (Cuts size) tables.files
HasRoom change tables = ⊤

-- what the entry means for an owner takes no memory
abbrev pub HasOwnerRoom : OwnerChange → Tables → Type 0
HasOwnerRoom owner_changes.Nothing tables = ⊤
HasOwnerRoom (owner_changes.Drops name) tables = ⊤
HasOwnerRoom (owner_changes.Keeps name) tables = ⊤
HasOwnerRoom (owner_changes.KeepsBoth name newcomer) tables = ⊤
HasOwnerRoom change tables = 0 < tables.owners.room

-- the owner can keep a request without taking memory
abbrev pub CanKeep : StateOwner → RoomyOwners → Type 0
CanKeep owner stored =
    IsTrue (has_place owner stored.owners)
    × (IsFalse (owners.is_known owner stored.owners) → 0 < stored.room)

-- the stored owners can keep it without taking memory
abbrev pub HasUpdateRoom : OwnerUpdate → Tables → Type 0
HasUpdateRoom updates.Nothing tables = ⊤
HasUpdateRoom (updates.Keeps keeping) tables = CanKeep keeping.owner tables.owners
HasUpdateRoom (updates.KeepsBoth keeping newcomer) tables =
    IsTrue (owners.is_known keeping.owner tables.owners.owners)
    × CanKeep newcomer.owner tables.owners
HasUpdateRoom (updates.Restarts name kept confirmed) tables =
    IsTrue (has_place (open_owner name) tables.owners.owners) × (0 < tables.owners.room)
HasUpdateRoom (updates.Drops name) tables = ⊤

-- the owner is known
abbrev pub is_known : StateOwner → State → Bool
is_known name state = is_some (owner_of name state.owners)

-- the owner isn't known, and there is a place for it
abbrev pub IsNewcomer : StateOwner → State → Type 0
IsNewcomer name state = IsFalse (is_known name state) × (length state.owners < OWNER_LIMIT)

-- The entry, for which there is room in the journal, can be committed with this effect without taking memory.
pub record TakesNoMemory (entry : Entry) (effect : Effect) (tables : Tables) : Type 0 where
  pub call : IsNoCall entry
  pub owner : HasOwnerRoom effect.owner tables
  pub change : HasRoom effect.change tables

-- What is known of the owners before the entry: one that keeps it or starts anew is known; one that is recorded isn't,
-- and there is a place for it.
abbrev pub HasOwnerPlace : OwnerChange → State → Type 0
HasOwnerPlace owner_changes.Nothing state = ⊤
HasOwnerPlace (owner_changes.Keeps name) state = IsTrue (is_known name state)
HasOwnerPlace (owner_changes.KeepsBoth name newcomer) state =
    IsTrue (is_known name state) × IsTrue (is_known newcomer state)
HasOwnerPlace (owner_changes.Introduces name newcomer) state =
    IsTrue (is_known name state) × IsNewcomer newcomer state
HasOwnerPlace (owner_changes.Records name confirmed) state = IsNewcomer (open_owner name) state
HasOwnerPlace (owner_changes.Restarts name confirmed) state =
    IsTrue (is_known (open_owner name) state)
HasOwnerPlace (owner_changes.Drops name) state = ⊤

-- The numbers that the change gives are left: a client number of a newcomer's slot, a confirm value, and state numbers,
-- two for an OPEN; a client's record that it adds fits those that are there, the runs of a lock state aren't too many
-- after it, and the bytes that it writes, or a size that it sets, end within the limit of a file. (How many states
-- there may be is judged by the rules.)
abbrev pub IsWithinLimits : Change → State → Type 0
IsWithinLimits (changes.Clients change) state =
    HasNumbersFor change state.clients × FitsRecords change state.clients
IsWithinLimits (changes.Opens node owner share lent) state = state.last_state < 2 ^ 32 - 2
IsWithinLimits (changes.Begins node first) state = state.last_state < 2 ^ 32 - 1
IsWithinLimits (changes.Locks node number change) state =
    IsFalse (is_full_for number change (locks_of node state.locks))
IsWithinLimits (changes.Writes node offset bytes) state = offset + length bytes ≤ TEXT_LIMIT
IsWithinLimits (changes.Cuts node size) state = size ≤ TEXT_LIMIT
IsWithinLimits change state = ⊤

-- each open, each lock state and each delegation has a number that was given: at most the last
pub record HasGivenNumbers (state : State) : Type 0 where
  pub of_opens : opens.IsAboveAll (state.last_state + 1) state.opens
  pub of_locks : locks.IsAboveAll (state.last_state + 1) state.locks
  pub of_delegations : opens.IsAboveAllLent (state.last_state + 1) state.delegations

-- The entry with this effect can be committed in this state: owners may keep it, the numbers that its change uses are
-- left and no limit is passed, and there is a place for an owner that it records.
pub record Fits (entry : Entry) (effect : Effect) (state : State) : Type 0 where
  pub kept : CanBeKept (kept_in entry) effect.owner
  pub numbers : IsWithinLimits effect.change state
  pub place : HasOwnerPlace effect.owner state
