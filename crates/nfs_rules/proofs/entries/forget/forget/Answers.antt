use Rattle.std.proofs.Common.{◌∙◌, ap, refl, sym}
use Rattle.nfs_owners.specs.Owner.{owner_of}
use Rattle.nfs_owners.specs.StateOwner.{as_open_owner, owner_seen}
use Rattle.nfs_owners.specs.declared.owner.OwnerState.{OwnerState}
use Rattle.nfs_owners.specs.declared.state_owner.StateOwner.{StateOwner}
use Rattle.nfs_rules.proofs.Forgetting.{has_state, may_forget, no_state, none_may, not_known, other_first}
use Rattle.nfs_rules.proofs.entries.forget.forget.Goals as goal
use Rattle.nfs_state.specs.Changes.{change_alone}
use Rattle.nfs_state.specs.Room.{state_of}
use Rattle.nfs_state.specs.declared.change.Change.TheVariants as changes

pub returns-in_default-clause-not_due : goal.returns-in_default-clause-not_due
returns-in_default-clause-not_due c = λ _ effect is.
    let store = c.args.store.now in
    let owners = store.tables.owners.owners in
    let none = no_state (owner_of (owner_seen c.of_open-owner.result) owners) c.in_default.ensures in
    not_known store.journal.history (state_of store.tables) owners c.args.forget.now effect refl
    (ap (λ (n : StateOwner). owner_of n owners) (sym c.of_open-owner.ensures) ∙ none) is

pub returns-in_default-first_idle-clause-not_due :
    goal.returns-in_default-first_idle-clause-not_due
returns-in_default-first_idle-clause-not_due c = λ _ effect is.
    let store = c.args.store.now in
    let owners = store.tables.owners.owners in
    let known = has_state (owner_of (owner_seen c.of_open-owner.result) owners) c.in-Some.known.now c.in-Some.ensures in
    none_may store.journal.history (state_of store.tables) c.args.forget.now.now owners refl c.first_idle.ensures.order c.args.forget.now effect known.0 refl
    (ap (λ (n : StateOwner). owner_of n owners) (sym c.of_open-owner.ensures) ∙ known.1) (sym c.in_default-first_idle.ensures.idle) is

pub returns-then-next-known-clause-not_due : goal.returns-then-next-known-clause-not_due
returns-then-next-known-clause-not_due c = λ _ effect is.
    let store = c.args.store.now in
    let owners = store.tables.owners.owners in
    let next = c.in-Some-first_idle.next.now in
    let known = has_state (owner_of (owner_seen c.of_open-owner.result) owners) c.in-Some.known.now c.in-Some.ensures in
    other_first store.journal.history (state_of store.tables) c.args.forget.now.now owners refl c.first_idle.ensures.order c.args.forget.now effect next known.0 refl (sym c.in-Some-first_idle.ensures.idle)
    (ap (λ (n : StateOwner). owner_of n owners) (sym c.of_open-owner.ensures) ∙ known.1) (λ same. c.if-next-known.true (same ∙ ap (λ (s : OwnerState). s.recorded) known.2)) is

pub returns-in-Ok-clause-forgetting : goal.returns-in-Ok-clause-forgetting
returns-in-Ok-clause-forgetting c =
    let store = c.args.store.now in
    let owners = store.tables.owners.owners in
    let next = c.in-Some-first_idle.next.now in
    let known = has_state (owner_of (owner_seen c.of_open-owner.result) owners) c.in-Some.known.now c.in-Some.ensures in
    may_forget store.journal.history (state_of store.tables) c.args.forget.now.now owners refl c.first_idle.ensures.order c.args.forget.now c.change_alone.result next known.0 refl (sym c.in-Some-first_idle.ensures.idle)
    (ap (λ (n : StateOwner). owner_of n owners) (sym c.of_open-owner.ensures) ∙ known.1) (c.if-next-known.false ∙ sym (ap (λ (s : OwnerState). s.recorded) known.2))
    (c.change_alone.ensures ∙ ap (λ o. change_alone (changes.Forgets o)) c.in-Ok.ensures ∙ ap (λ (n : StateOwner). change_alone (changes.Forgets (as_open_owner n))) c.of_open-owner.ensures)

pub returns-in-Err-clause-memory : goal.returns-in-Err-clause-memory
returns-in-Err-clause-memory c = λ _.
    let store = c.args.store.now in
    let owners = store.tables.owners.owners in
    let next = c.in-Some-first_idle.next.now in
    let known = has_state (owner_of (owner_seen c.of_open-owner.result) owners) c.in-Some.known.now c.in-Some.ensures in
    let effect = change_alone (changes.Forgets c.args.forget.now.owner) in (
      effect,
      may_forget store.journal.history (state_of store.tables) c.args.forget.now.now owners refl c.first_idle.ensures.order c.args.forget.now effect next known.0 refl (sym c.in-Some-first_idle.ensures.idle)
          (ap (λ (n : StateOwner). owner_of n owners) (sym c.of_open-owner.ensures) ∙ known.1) (c.if-next-known.false ∙ sym (ap (λ (s : OwnerState). s.recorded) known.2)) refl,
    )
