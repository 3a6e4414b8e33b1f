-- A store, which has what a server stores and the journal of the entries that led to it.
use Rattle.std.specs.Prelude.{◌≡◌}
use Rattle.nfs_state.specs.Kept.{Agrees}
use Rattle.nfs_state.specs.Room.{stored_of}
use Rattle.nfs_state.specs.declared.store.Store.{Store}

-- Two stores have the same journal, and what the tables store is the same, no matter how much room they have.
abbrev pub HoldTheSame : Store → Store → Type 0
HoldTheSame old new =
    (new.journal.history ≡ old.journal.history)
    × (stored_of new.tables ≡ stored_of old.tables)

-- what is stored for each owner is what its entry in the journal has
abbrev pub OwnersAgree : Store → Type 0
OwnersAgree store = Agrees store.journal.history store.tables.owners.owners
