use Rattle.std.proofs.Common.{Some, ap, subst, ◌∙◌}
use Rattle.nfs_core.proofs.StillIdle.{forgotten_one, some_idle}
use Rattle.nfs_core.proofs.forgetting.forget_next.Goals as goal
use Rattle.nfs_core.specs.Events.{forget_of}
use Rattle.nfs_core.specs.Forgetting.{IsFound}
use Rattle.nfs_core.specs.Server.{server_of}
use Rattle.nfs_forms.specs.declared.open_owner.OpenOwner.{OpenOwner}
use Rattle.nfs_state.specs.Changes.{change_alone}
use Rattle.nfs_state.specs.Room.{state_of}
use Rattle.nfs_state.specs.declared.change.Change.TheVariants as changes

pub returns-in-Ok-clause-forgotten : goal.returns-in-Ok-clause-forgotten
returns-in-Ok-clause-forgotten c =
    let idle = c.in-Ok-Some.idle in
    let store = c.args.held.now.store in
    let found : IsFound store.journal.history (state_of store.tables) c.args.now (Some idle) = subst (IsFound store.journal.history (state_of store.tables) c.args.now) c.in-Ok-Some.field-0-is c.in-Ok-Some.ensures.found in
    let entered = c.in-Ok.ensures.entered in
    forgotten_one (server_of c.args.held.now) (server_of c.commit.new.held) idle.owner c.change_alone-effect.result idle.recorded c.args.now c.in-Ok.number entered.0 entered.1
    (c.change_alone-effect.ensures ∙ ap (λ (o : OpenOwner). change_alone (changes.Forgets o)) found.1) c.requires.store.owners found.3 found.4

pub returns-in-Ok-clause-none : goal.returns-in-Ok-clause-none
returns-in-Ok-clause-none c =
    let store = c.args.held.now.store in
    let found : IsFound store.journal.history (state_of store.tables) c.args.now (Some c.in-Ok-Some.idle) = subst (IsFound store.journal.history (state_of store.tables) c.args.now) c.in-Ok-Some.field-0-is c.in-Ok-Some.ensures.found in
    let owner = c.in-Ok-Some.idle.owner in (
      λ is. absurd cc,
      λ none. absurd (some_idle store.journal.history (state_of store.tables) (forget_of owner c.args.now) (change_alone (changes.Forgets owner)) found.2 none),
    )

pub returns-in-Err-commit-clause-none : goal.returns-in-Err-commit-clause-none
returns-in-Err-commit-clause-none c =
    let store = c.args.held.now.store in
    let found : IsFound store.journal.history (state_of store.tables) c.args.now (Some c.in-Ok-Some.idle) = subst (IsFound store.journal.history (state_of store.tables) c.args.now) c.in-Ok-Some.field-0-is c.in-Ok-Some.ensures.found in
    let owner = c.in-Ok-Some.idle.owner in (
      λ is. absurd cc,
      λ none. absurd (some_idle store.journal.history (state_of store.tables) (forget_of owner c.args.now) (change_alone (changes.Forgets owner)) found.2 none),
    )

pub returns-in-Err-commit-clause-error : goal.returns-in-Err-commit-clause-error
returns-in-Err-commit-clause-error c =
    let store = c.args.held.now.store in
    let owner = c.in-Ok-Some.idle.owner in
    let found : IsFound store.journal.history (state_of store.tables) c.args.now (Some c.in-Ok-Some.idle) = subst (IsFound store.journal.history (state_of store.tables) c.args.now) c.in-Ok-Some.field-0-is c.in-Ok-Some.ensures.found in
    (some_idle store.journal.history (state_of store.tables) (forget_of owner c.args.now) (change_alone (changes.Forgets owner)) found.2, found.0)
