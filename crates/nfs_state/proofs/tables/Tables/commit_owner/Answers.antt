use Rattle.std.proofs.Common.{ap, not, subst, sym, ◌∙◌}
use Rattle.nfs_owners.specs.Owner.{has_name}
use Rattle.nfs_owners.specs.StateOwner.{open_owner}
use Rattle.nfs_state.specs.Stored.{Stored}
use Rattle.nfs_owners.specs.Owners.{AreBefore, with_kept}
use Rattle.nfs_state.specs.Room.{stored_of}
use Rattle.nfs_state.proofs.StoredOwners.{before_filter, drops_seen, keeps_both_seen, keeps_seen, restarts_seen}
use Rattle.nfs_state.proofs.tables.Tables.commit_owner.Goals as goal

pub returns-in-Keeps-clause-state : goal.returns-in-Keeps-clause-state
returns-in-Keeps-clause-state c change kept update place =
    keeps_seen (stored_of c.args.self.now) (stored_of c.keep.new.self) c.in-Keeps.keeping c.args.number c.keep.ensures.stored change kept (sym c.in-Keeps.is ∙ update) place

pub returns-in-Restarts-clause-state : goal.returns-in-Restarts-clause-state
returns-in-Restarts-clause-state c change kept update place =
    restarts_seen (stored_of c.args.self.now) (stored_of c.remove_owner.new.self) c.in-Restarts.owner c.args.number c.in-Restarts.kept c.in-Restarts.confirmed c.keep-in-Restarts.new.self.owners c.remove_owner.ensures.stored
    (c.keep-in-Restarts.ensures.owners ∙ ap (λ n. with_kept n c.args.number c.in-Restarts.kept c.in-Restarts.confirmed (stored_of c.remove_owner.new.self).owners) c.of_open.ensures) change kept (sym c.in-Restarts.is ∙ update)

pub returns-in-Drops-clause-state : goal.returns-in-Drops-clause-state
returns-in-Drops-clause-state c change kept update place =
    drops_seen (stored_of c.args.self.now) (stored_of c.remove_owner-in-Drops.new.self) c.in-Drops.owner c.args.number c.remove_owner-in-Drops.ensures.stored change kept (sym c.in-Drops.is ∙ update)

pub returns-in-KeepsBoth-clause-state : goal.returns-in-KeepsBoth-clause-state
returns-in-KeepsBoth-clause-state c change kept update place =
    keeps_both_seen (stored_of c.args.self.now) (stored_of c.keep-in-KeepsBoth.new.self) (stored_of c.keep-in-KeepsBoth-2.new.self) c.in-KeepsBoth.keeping c.in-KeepsBoth.newcomer c.args.number
    c.keep-in-KeepsBoth.ensures.stored c.keep-in-KeepsBoth-2.ensures.stored change kept (sym c.in-KeepsBoth.is ∙ update) place

pub keep-requires-in-Restarts-clause-newest : goal.keep-requires-in-Restarts-clause-newest
keep-requires-in-Restarts-clause-newest c = λ _.
    let stored_before : Stored → Type 0 = λ stored. AreBefore c.args.number stored.owners in
    subst stored_before (sym c.remove_owner.ensures.stored)
    (before_filter c.args.number (λ o. not (has_name (open_owner c.in-Restarts.owner) o)) c.args.self.now.owners.owners c.requires.newest)
