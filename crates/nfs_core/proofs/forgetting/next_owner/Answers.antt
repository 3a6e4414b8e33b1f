use Rattle.nfs_core.proofs.StillIdle.{some_idle}
use Rattle.nfs_core.proofs.forgetting.next_owner.Goals as goal
use Rattle.nfs_owners.specs.StateOwner.{as_open_owner}
use Rattle.nfs_rules.specs.entries.Forget.{end_of}
use Rattle.nfs_state.specs.Changes.{change_alone}
use Rattle.nfs_state.specs.Room.{state_of}
use Rattle.nfs_state.specs.declared.change.Change.TheVariants as changes

pub returns-then-is_full-clause-some : goal.returns-then-is_full-clause-some
returns-then-is_full-clause-some c =
    let name = c.in-Some.found.now.name in
    some_idle c.args.store.now.journal.history (state_of c.args.store.now.tables) (end_of name c.args.now) (change_alone (changes.Forgets (as_open_owner name))) c.in-Some.ensures.next

pub returns-in-Err-clause-some : goal.returns-in-Err-clause-some
returns-in-Err-clause-some c =
    let name = c.in-Some.found.now.name in
    some_idle c.args.store.now.journal.history (state_of c.args.store.now.tables) (end_of name c.args.now) (change_alone (changes.Forgets (as_open_owner name))) c.in-Some.ensures.next
