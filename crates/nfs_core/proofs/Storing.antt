-- What a decision and its effect need of a core's store follows from what always holds of the store.
use Rattle.nfs_core.proofs.FileChanges.{Lawful-changes}
use Rattle.nfs_core.proofs.Journals.{Lawful-confirm, Lawful-state}
use Rattle.nfs_core.proofs.SoundNames.{stored_apart}
use Rattle.nfs_core.proofs.SoundNumbers.{given_numbers}
use Rattle.nfs_core.specs.Following.{StoreAgrees}
use Rattle.nfs_core.specs.Lawful.{Lawful}
use Rattle.nfs_core.specs.Safe.{IsSafe}
use Rattle.nfs_state.specs.Room.{state_of}
use Rattle.nfs_state.specs.State.{State, History}
use Rattle.nfs_state.specs.Store.{OwnersAgree}
use Rattle.nfs_state.specs.declared.store.Store.{Store}

pub store_agrees : ((journal : History) (state : State) → Lawful journal state → IsSafe state) → (store : Store) → Lawful store.journal.history (state_of store.tables) → OwnersAgree store → StoreAgrees store
store_agrees is_safe store lawful agrees =
    let journal = store.journal.history in
    let state = state_of store.tables in
    let safe = is_safe journal state lawful in
    record {
      confirms = Lawful-confirm journal state lawful;
      states = Lawful-state journal state lawful;
      changes = Lawful-changes journal state lawful;
      given = given_numbers state safe.numbers_given;
      owners = agrees;
      owners_differ = stored_apart store.tables.owners.owners safe.owners_differ;
    }
