use Rattle.std.proofs.Common.{◌∙◌, ◌&&◌, Bool, ap, sym}
use Rattle.nfs_owners.specs.Owners.{has_place}
use Rattle.nfs_owners.specs.StateOwner.{lock_owner}
use Rattle.nfs_rules.proofs.OpeningLaws.{place_seen}
use Rattle.nfs_rules.proofs.operations.lock.has_places.Goals as goal
use Rattle.nfs_state.specs.Places.{has_state_place}
use Rattle.nfs_state.specs.Room.{state_of}

pub returns-then-has_place : goal.returns-then-has_place
returns-then-has_place c =
    let state = state_of c.args.tables.now in
    let seen = place_seen (lock_owner c.args.owner.now) c.args.tables.now
    ∙ ap (λ n. has_place n c.args.tables.now.owners.owners) (sym c.of_lock.ensures)
    ∙ sym c.has_place.ensures.place ∙ c.if-has_place.true in
    c.has_state_place.ensures ∙ sym (ap (λ (p : Bool). p && has_state_place state) seen)

pub returns-else-has_place : goal.returns-else-has_place
returns-else-has_place c =
    let state = state_of c.args.tables.now in
    let seen = place_seen (lock_owner c.args.owner.now) c.args.tables.now
    ∙ ap (λ n. has_place n c.args.tables.now.owners.owners) (sym c.of_lock.ensures)
    ∙ sym c.has_place.ensures.place ∙ c.if-has_place.false in
    c.if-has_place.false ∙ sym (ap (λ (p : Bool). p && has_state_place state) seen)
