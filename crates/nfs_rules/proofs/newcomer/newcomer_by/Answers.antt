use Rattle.std.proofs.Common.{◌∙◌, Bool, ap, sym}
use Rattle.std.specs.Option.{option_copied}
use Rattle.std.specs.Prelude.{if◌then◌else◌}
use Rattle.nfs_owners.specs.StateOwner.{lock_owner}
use Rattle.nfs_rules.specs.Newcomers.{Nobody, Known}
use Rattle.nfs_rules.proofs.Sequencing.{found_state, newcomer_found, newcomer_none, none_found}
use Rattle.nfs_rules.proofs.newcomer.newcomer_by.Goals as goal

pub returns-in-None : goal.returns-in-None
returns-in-None c = λ journal agrees.
    let locker = c.args.locker.now in
    let stored = c.args.tables.now.owners.owners in
    newcomer_none journal locker (lock_owner locker.lock_owner) stored
    (none_found (lock_owner locker.lock_owner) stored (ap (λ n. found_state n stored) (sym c.of_lock.ensures) ∙ sym c.find.ensures ∙ ap option_copied c.in-None.is))

pub returns-in-Some : goal.returns-in-Some
returns-in-Some c = λ journal agrees.
    let locker = c.args.locker.now in
    let stored = c.args.tables.now.owners.owners in
    ap (λ (b : Bool). if b then Known locker.lock_owner else Nobody) (sym c.if-precedes.true)
    ∙ newcomer_found journal locker (lock_owner locker.lock_owner) stored c.in-Some.known.now c.precedes.result agrees
    (ap (λ n. found_state n stored) (sym c.of_lock.ensures) ∙ sym c.find.ensures ∙ ap option_copied c.in-Some.is) c.precedes.ensures

pub returns-in-Some-2 : goal.returns-in-Some-2
returns-in-Some-2 c = λ journal agrees.
    let locker = c.args.locker.now in
    let stored = c.args.tables.now.owners.owners in
    ap (λ (b : Bool). if b then Known locker.lock_owner else Nobody) (sym c.if-precedes.false)
    ∙ newcomer_found journal locker (lock_owner locker.lock_owner) stored c.in-Some.known.now c.precedes.result agrees
    (ap (λ n. found_state n stored) (sym c.of_lock.ensures) ∙ sym c.find.ensures ∙ ap option_copied c.in-Some.is) c.precedes.ensures
