use Rattle.std.proofs.Common.{◌∙◌, ap, sym, subst}
use Rattle.std.specs.Prelude.{not}
use Rattle.nfs_owners.specs.Owner.{has_name}
use Rattle.nfs_owners.specs.Owners.{with_confirmed, without_owner}
use Rattle.nfs_owners.specs.StateOwner.{lock_owner, open_owner}
use Rattle.nfs_state.specs.Kept.{Agrees}
use Rattle.nfs_state.specs.Room.{stored_of}
use Rattle.nfs_state.proofs.StoredOwners.{agrees_confirmed, agrees_filter, confirms_seen, forgets_seen, releases_seen}
use Rattle.nfs_state.proofs.tables.Tables.commit.Goals as goal

pub returns-in-Confirms-clause-state : goal.returns-in-Confirms-clause-state
returns-in-Confirms-clause-state c =
    let owners = c.args.self.now.owners.owners in
    confirms_seen (stored_of c.args.self.now) c.in-Confirms.node c.in-Confirms.number c.in-Confirms.owner c.confirm.new.self.owners _ _
    (c.confirm.ensures.owners ∙ ap (λ n. with_confirmed n owners) c.of_open.ensures) c.advance.ensures.opens c.advance.ensures.delegations c.args.change c.in-Confirms.is

pub returns-in-Confirms-clause-kept : goal.returns-in-Confirms-clause-kept
returns-in-Confirms-clause-kept c journal agrees =
    let owners = c.args.self.now.owners.owners in
    subst (Agrees journal) (sym (c.confirm.ensures.owners ∙ ap (λ n. with_confirmed n owners) c.of_open.ensures))
    (agrees_confirmed journal (open_owner c.in-Confirms.owner) owners agrees)

pub returns-in-Releases-clause-state : goal.returns-in-Releases-clause-state
returns-in-Releases-clause-state c =
    let owners = c.args.self.now.owners.owners in
    releases_seen (stored_of c.args.self.now) c.in-Releases.owner c.remove.new.self.owners _
    (c.remove.ensures.owners ∙ ap (λ n. without_owner n owners) c.of_lock.ensures) c.remove_owner.ensures c.args.change c.in-Releases.is

pub returns-in-Releases-clause-kept : goal.returns-in-Releases-clause-kept
returns-in-Releases-clause-kept c journal agrees =
    let owners = c.args.self.now.owners.owners in
    subst (Agrees journal) (sym (c.remove.ensures.owners ∙ ap (λ n. without_owner n owners) c.of_lock.ensures))
    (agrees_filter journal (λ o. not (has_name (lock_owner c.in-Releases.owner) o)) owners agrees)

pub returns-in-Forgets-clause-state : goal.returns-in-Forgets-clause-state
returns-in-Forgets-clause-state c =
    let owners = c.args.self.now.owners.owners in
    forgets_seen (stored_of c.args.self.now) c.in-Forgets.owner c.remove-in-Forgets.new.self.owners
    (c.remove-in-Forgets.ensures.owners ∙ ap (λ n. without_owner n owners) c.of_open-in-Forgets.ensures) c.args.change c.in-Forgets.is

pub returns-in-Forgets-clause-kept : goal.returns-in-Forgets-clause-kept
returns-in-Forgets-clause-kept c journal agrees =
    let owners = c.args.self.now.owners.owners in
    subst (Agrees journal) (sym (c.remove-in-Forgets.ensures.owners ∙ ap (λ n. without_owner n owners) c.of_open-in-Forgets.ensures))
    (agrees_filter journal (λ o. not (has_name (open_owner c.in-Forgets.owner) o)) owners agrees)
