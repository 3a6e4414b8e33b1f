use Rattle.std.proofs.Common.{rules, subst}
use Rattle.nfs_core.proofs.following.follow.Goals as goal
use Rattle.nfs_core.specs.Step.{Step}
use Rattle.nfs_state.specs.Room.{state_of}
use Rattle.nfs_state.specs.declared.entry.Entry.{Entry}

pub returns-in-Call-clause-not_next : goal.returns-in-Call-clause-not_next
returns-in-Call-clause-not_next c is new step =
    let before : Entry → Type 0 = λ e. Step c.args.held.now.store.journal.history (state_of c.args.held.now.store.tables) e new in
    c.follow_call.ensures.not_next is new (subst before (search rules) step)

pub returns-in-Expire-clause-not_next : goal.returns-in-Expire-clause-not_next
returns-in-Expire-clause-not_next c is new step =
    let before : Entry → Type 0 = λ e. Step c.args.held.now.store.journal.history (state_of c.args.held.now.store.tables) e new in
    c.follow_event.ensures.not_next is new (subst before (search rules) step)

pub returns-in-Revoke-clause-not_next : goal.returns-in-Revoke-clause-not_next
returns-in-Revoke-clause-not_next c is new step =
    let before : Entry → Type 0 = λ e. Step c.args.held.now.store.journal.history (state_of c.args.held.now.store.tables) e new in
    c.follow_event-in-Revoke.ensures.not_next is new (subst before (search rules) step)

pub returns-in-Path-clause-not_next : goal.returns-in-Path-clause-not_next
returns-in-Path-clause-not_next c is new step =
    let before : Entry → Type 0 = λ e. Step c.args.held.now.store.journal.history (state_of c.args.held.now.store.tables) e new in
    c.follow_event-in-Path.ensures.not_next is new (subst before (search rules) step)

pub returns-in-Forget-clause-not_next : goal.returns-in-Forget-clause-not_next
returns-in-Forget-clause-not_next c is new step =
    let before : Entry → Type 0 = λ e. Step c.args.held.now.store.journal.history (state_of c.args.held.now.store.tables) e new in
    c.follow_event-in-Forget.ensures.not_next is new (subst before (search rules) step)
