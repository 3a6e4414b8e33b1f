use Rattle.std.proofs.Common.{◌∙◌, ap, sym, subst}
use Rattle.nfs_state.specs.Kept.{Agrees, kept_in, owners_after, update_by}
use Rattle.nfs_state.specs.Changes.{after, with_state_change}
use Rattle.nfs_state.specs.Files.{CanChange}
use Rattle.nfs_state.specs.Room.{HasGivenNumbers, HasUpdateRoom, IsWithinLimits, state_of}
use Rattle.nfs_state.specs.State.{State}
use Rattle.nfs_state.specs.declared.effect.Effect.{Effect}
use Rattle.nfs_state.proofs.OwnerRoom.{given_after, limits_after, nothing_kept, owners_changed, same_files, update_room_by}
use Rattle.nfs_state.proofs.committing.make_changes.Goals as goal

-- an entry that changes nothing leaves the state as it is
pub returns-then-is_nothing-clause-state : goal.returns-then-is_nothing-clause-state
returns-then-is_nothing-clause-state c =
    sym (ap (λ (e : Effect). after c.args.number e (state_of c.args.tables.now)) (c.is_nothing.ensures.0 c.if-is_nothing.true))

pub returns-then-is_nothing-clause-kept : goal.returns-then-is_nothing-clause-kept
returns-then-is_nothing-clause-kept c = λ journal agrees.
    let owners = c.args.tables.now.owners.owners in
    let nothing = ap (λ (e : Effect). owners_after (update_by e.owner (kept_in c.args.entry.now)) c.args.number owners) (c.is_nothing.ensures.0 c.if-is_nothing.true) in
    subst (Agrees journal) (nothing ∙ nothing_kept (kept_in c.args.entry.now) c.args.number owners) agrees

pub commit_owner-requires-clause-room : goal.commit_owner-requires-clause-room
commit_owner-requires-clause-room c =
    let tables = c.args.tables.now in
    subst (λ u. HasUpdateRoom u tables) (sym c.of.ensures) (update_room_by c.args.effect.owner (kept_in c.args.entry.now) tables c.requires.fits.place c.requires.room.1)

pub commit-requires-clause-numbers : goal.commit-requires-clause-numbers
commit-requires-clause-numbers c =
    let effect = c.args.effect in
    let roomy = c.args.tables.now in
    let place = c.requires.fits.place in
    let changed = owners_changed c.of.result effect.owner (kept_in c.args.entry.now) c.args.number (state_of roomy) (state_of c.commit_owner.new.self) c.of.ensures c.requires.fits.kept c.commit_owner.ensures.state c.commit_owner.ensures.nothing place in
    subst (IsWithinLimits effect.change) (sym changed)
    (limits_after effect.change effect.owner c.args.number (state_of c.args.tables.now) c.requires.fits.numbers)

pub commit-requires-clause-given : goal.commit-requires-clause-given
commit-requires-clause-given c =
    let effect = c.args.effect in
    let roomy = c.args.tables.now in
    let place = c.requires.fits.place in
    let changed = owners_changed c.of.result effect.owner (kept_in c.args.entry.now) c.args.number (state_of roomy) (state_of c.commit_owner.new.self) c.of.ensures c.requires.fits.kept c.commit_owner.ensures.state c.commit_owner.ensures.nothing place in
    subst HasGivenNumbers (sym changed) (given_after effect.owner c.args.number (state_of c.args.tables.now) c.requires.given)

pub commit-requires-clause-changes : goal.commit-requires-clause-changes
commit-requires-clause-changes c =
    let effect = c.args.effect in
    let roomy = c.args.tables.now in
    let place = c.requires.fits.place in
    let changed = owners_changed c.of.result effect.owner (kept_in c.args.entry.now) c.args.number (state_of roomy) (state_of c.commit_owner.new.self) c.of.ensures c.requires.fits.kept c.commit_owner.ensures.state c.commit_owner.ensures.nothing place in
    subst CanChange (sym (ap (λ (s : State). s.files) changed ∙ same_files effect.owner c.args.number (state_of c.args.tables.now))) c.requires.changes

pub returns-clause-state : goal.returns-clause-state
returns-clause-state c =
    let effect = c.args.effect in
    let roomy = c.args.tables.now in
    let place = c.requires.fits.place in
    let changed = owners_changed c.of.result effect.owner (kept_in c.args.entry.now) c.args.number (state_of roomy) (state_of c.commit_owner.new.self) c.of.ensures c.requires.fits.kept c.commit_owner.ensures.state c.commit_owner.ensures.nothing place in
    c.commit.ensures.state ∙ ap (with_state_change effect.change) changed

pub returns-clause-kept : goal.returns-clause-kept
returns-clause-kept c = λ journal agrees.
    let roomy = c.args.tables.now in
    let update = update_by c.args.effect.owner (kept_in c.args.entry.now) in
    let are = c.commit_owner.ensures.owners
    ∙ ap (λ u. owners_after u c.args.number roomy.owners.owners) c.of.ensures in
    c.commit.ensures.kept journal (subst (Agrees journal) (sym are) agrees)
