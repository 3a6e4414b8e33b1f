use Rattle.std.proofs.Common.{refl}
use Rattle.nfs_rules.proofs.Forgetting.{found_before, found_next, found_none, found_recorded}
use Rattle.nfs_rules.proofs.entries.forget.next_idle.Goals as goal
use Rattle.nfs_state.specs.Room.{state_of}

pub returns-clause-next : goal.returns-clause-next
returns-clause-next c =
    let store = c.args.store.now in
    found_next store.journal.history (state_of store.tables) c.args.now store.tables.owners.owners refl c.first_idle.ensures.order c.args.entry c.first_idle.result c.requires c.first_idle.ensures.idle c.first_idle.ensures.own

pub returns-clause-recorded : goal.returns-clause-recorded
returns-clause-recorded c =
    let store = c.args.store.now in
    found_recorded store.journal.history (state_of store.tables) c.args.now store.tables.owners.owners refl c.first_idle.ensures.order c.args.entry c.first_idle.result c.requires c.first_idle.ensures.idle c.first_idle.ensures.own

pub returns-clause-before : goal.returns-clause-before
returns-clause-before c =
    let store = c.args.store.now in
    found_before store.journal.history (state_of store.tables) c.args.now store.tables.owners.owners refl c.first_idle.ensures.order c.args.entry c.first_idle.result c.requires c.first_idle.ensures.idle

pub returns-clause-none : goal.returns-clause-none
returns-clause-none c =
    let store = c.args.store.now in
    found_none store.journal.history (state_of store.tables) c.args.now store.tables.owners.owners refl c.first_idle.ensures.order c.args.entry c.first_idle.result c.requires c.first_idle.ensures.idle
