-- The core of the server: whether it is lawful, and how it takes entries and answers requests.
use Rattle.std.specs.Prelude.{◌≡◌, ℕ, length, Option, Some, None}
use Rattle.nfs_core.specs.Recalls.{RecallsLeft, left_of, recalls_by, with_more}
use Rattle.nfs_core.specs.declared.holdings.Holdings.{Holdings}
use Rattle.nfs_state.specs.Room.{stored_of}
use Rattle.nfs_state.specs.State.{History}
use Rattle.nfs_state.specs.declared.entry.Entry.{Entry}
use Rattle.nfs_state.specs.declared.request.Request.{Request}
use Rattle.nfs_core.specs.Lawful.{Lawful}
use Rattle.nfs_core.specs.Step.{Step}
use Rattle.nfs_state.specs.Entries.{entry_of, resource, with_entry}
use Rattle.nfs_state.specs.Stored.{Stored, meaning}
use Rattle.nfs_xdr.specs.declared.op_result.OpResult.{OpResult}

pub record Server : Type 0 where
  pub journal : History
  pub stored : Stored
  -- how many entries the journal can gain without memory
  pub room : ℕ
  -- the recalls of the journal that nobody took yet
  pub recalls : RecallsLeft

-- the server that a core holds
abbrev pub server_of : Holdings → Server
server_of held = record {
  journal = held.store.journal.history;
  stored = stored_of held.store.tables;
  room = held.store.journal.room;
  recalls = left_of held.recalls;
}

-- Two servers have the same journal, store the same, and have the same recalls left, no matter how much room they have.
abbrev pub AreAlike : Server → Server → Type 0
AreAlike old new =
    (new.journal ≡ old.journal) × (new.stored ≡ old.stored) × (new.recalls ≡ old.recalls)

-- the server's journal leads to the state that is stored
abbrev pub IsLawful : Server → Type 0
IsLawful server = Lawful server.journal (meaning server.stored)

-- The server `old` becomes `new` by an entry that may come next, and is the journal's entry with this number. The
-- recalls that it makes come to those that are left.
abbrev pub Enters : Server → Server → Entry → ℕ → Type 0
Enters old new entry number =
    (number ≡ length old.journal.entries)
    × (new.journal ≡ with_entry entry old.journal)
    × (step : Step old.journal (meaning old.stored) entry (meaning new.stored))
    × (new.recalls ≡ with_more (recalls_by step.effect.change (meaning old.stored)) old.recalls)

-- One call of `apply`: the server `old` answers the request and becomes `new`. With a number the answered request is
-- the journal's entry of that number, as the operation's rule decides. Without a number the answer is
-- NFS4ERR_RESOURCE, and nothing changes but room.
abbrev pub Applies : Server → Server → Request → OpResult → Option ℕ → Type 0
Applies old new request answer None = (answer ≡ resource request.op) × AreAlike old new
Applies old new request answer (Some number) =
    Enters old new (entry_of request answer) number
