use Rattle.std.proofs.Common.{◌≡◌, length, rules, subst, sym}
use Rattle.nfs_owners.specs.Owners.{AreBefore}
use Rattle.nfs_state.specs.Kept.{Agrees, kept_in, owners_after, update_by}
use Rattle.nfs_state.specs.State.{History}
use Rattle.nfs_state.specs.Stored.{Stored}
use Rattle.nfs_state.proofs.KeptOwners.{Agrees-before, Agrees-changed}
use Rattle.nfs_state.proofs.committing.commit_entry.Goals as goal

pub returns-in-Ok-clause-kept : goal.returns-in-Ok-clause-kept
returns-in-Ok-clause-kept c =
    let update = update_by c.args.effect.owner (kept_in c.args.entry) in
    let after = c.make_changes.new.tables.owners.owners in
    let stored_keeps : Stored → Type 0 = λ stored. (journal : History) → Agrees journal (owners_after update c.len-number.result stored.owners) → Agrees journal after in
    Agrees-changed c.args.store.now.journal.history _ c.args.entry c.args.effect.owner c.len-number.result c.args.store.now.tables.owners.owners after (subst stored_keeps c.make_ready.ensures.same.1 c.make_changes.ensures.kept) (search rules) (search rules) c.requires.fits.kept c.requires.kept

pub make_changes-requires-clause-newest : goal.make_changes-requires-clause-newest
make_changes-requires-clause-newest c =
    let old = c.args.store.now in
    let number : length old.journal.history.entries ≡ c.len-number.result = search rules in
    let stored_before : Stored → Type 0 = λ stored. AreBefore c.len-number.result stored.owners in
    subst stored_before (sym c.make_ready.ensures.same.1)
    (subst (λ n. AreBefore n old.tables.owners.owners) number (Agrees-before old.journal.history old.tables.owners.owners c.requires.kept))
