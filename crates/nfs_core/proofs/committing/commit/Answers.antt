use Rattle.std.proofs.Common.{length, refl, rules}
use Rattle.nfs_core.proofs.NextEntries.{Step-next}
use Rattle.nfs_core.proofs.FileChanges.{can_change}
use Rattle.nfs_core.proofs.committing.commit.Goals as goal
use Rattle.nfs_state.specs.Room.{state_of}

pub commit_entry-requires-clause-changes : goal.commit_entry-requires-clause-changes
commit_entry-requires-clause-changes c =
    let store = c.args.held.now.store in
    can_change (length store.journal.history.entries) (state_of store.tables).files c.requires.next.below c.requires.stored.changes

pub returns-in_ok-number-in-Ok-clause-entered : goal.returns-in_ok-number-in-Ok-clause-entered
returns-in_ok-number-in-Ok-clause-entered c =
    let store = c.args.held.now.store in
    let entered = c.in_ok-number-in-Ok.ensures in
    let step = Step-next store.journal.history (state_of store.tables) _ c.args.entry c.args.effect c.requires.next entered.state in
    ((entered.number, entered.entry, step, search rules), refl)
