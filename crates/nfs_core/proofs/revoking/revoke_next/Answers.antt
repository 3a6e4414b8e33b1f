use Rattle.std.proofs.Common.{◌≡◌, ℕ, zero, suc, ◌<◌, false, length, refl, subst, sym, arith}
use Rattle.std.proofs.lemmas.Bool.{leb-false, leb-true}
use Rattle.nfs_core.proofs.DueDelegations.{one_due}
use Rattle.nfs_core.proofs.SoundSequences.{never}
use Rattle.nfs_core.proofs.revoking.revoke_next.Goals as goal
use Rattle.nfs_core.specs.Recalls.{CallsNothingBack}
use Rattle.nfs_core.specs.Server.{server_of}
use Rattle.nfs_rules.specs.entries.Revoke.{return_of}
use Rattle.nfs_share.specs.OpenFound.{delegation_seen}
use Rattle.nfs_state.specs.Changes.{change_alone}
use Rattle.nfs_state.specs.Room.{TakesNoMemory}
use Rattle.nfs_state.specs.declared.change.Change.TheVariants as changes
use Rattle.nfs_state.specs.declared.effect.Effect.{Effect}
use Rattle.nfs_state.specs.declared.entry.Entry.TheVariants as entries
use Rattle.nfs_state.specs.declared.entry.Revoke.{Revoke}
use Rattle.nfs_state.specs.declared.entry.TheConstants.{JOURNAL_LIMIT}
use Rattle.nfs_state.specs.declared.tables.Tables.{Tables}

no_room : (room : ℕ) → (0 < room → ⊥) → room ≡ 0
no_room zero none = refl
no_room (suc room) none = absurd (none (search arith))

-- the end of a delegation needs no memory but the journal's
takes_none : (revoke : Revoke) (node number : ℕ) (effect : Effect) (tables : Tables) → effect ≡ change_alone (changes.Returns node number) → TakesNoMemory (entries.Revoke revoke) effect tables × CallsNothingBack effect.change
takes_none revoke node number effect tables is =
    subst (λ (e : Effect). TakesNoMemory (entries.Revoke revoke) e tables × CallsNothingBack e.change) (sym is) (record { call = tt; owner = tt; change = tt }, tt)

pub returns-in-Ok-clause-revoked : goal.returns-in-Ok-clause-revoked
returns-in-Ok-clause-revoked c =
    let entered = c.in-Ok.ensures.entered.0 in
    (refl, entered.1, entered.2, entered.3)

pub returns-in-Ok-clause-none : goal.returns-in-Ok-clause-none
returns-in-Ok-clause-none c =
    let due = c.in-Some.due in (
      λ is. absurd cc,
      λ none. absurd (one_due (server_of c.args.held.now) c.args.now due.state.number (return_of (delegation_seen due), c.in-Some.ensures.next) none),
    )

pub returns-in-Err-clause-none : goal.returns-in-Err-clause-none
returns-in-Err-clause-none c =
    let due = c.in-Some.due in (
      λ is. absurd cc,
      λ none. absurd (one_due (server_of c.args.held.now) c.args.now due.state.number (return_of (delegation_seen due), c.in-Some.ensures.next) none),
    )

pub returns-then-is_full-clause-none : goal.returns-then-is_full-clause-none
returns-then-is_full-clause-none c =
    let due = c.in-Some.due in (
      λ is. absurd cc,
      λ none. absurd (one_due (server_of c.args.held.now) c.args.now due.state.number (return_of (delegation_seen due), c.in-Some.ensures.next) none),
    )

pub returns-then-is_full-clause-error : goal.returns-then-is_full-clause-error
returns-then-is_full-clause-error c =
    let due = c.in-Some.due in (
      one_due (server_of c.args.held.now) c.args.now due.state.number (return_of (delegation_seen due), c.in-Some.ensures.next),
      leb-true JOURNAL_LIMIT (length c.args.held.now.store.journal.history.entries) (sym c.if-is_full.ensures),
    )

pub returns-in-Err-clause-error : goal.returns-in-Err-clause-error
returns-in-Err-clause-error c =
    let due = c.in-Some.due in
    let store = c.args.held.now.store in
    let takes = takes_none (record { number = due.state.number; now = c.args.now }) due.node due.state.number c.change_alone-effect.result store.tables c.change_alone-effect.ensures in (
      one_due (server_of c.args.held.now) c.args.now due.state.number (return_of (delegation_seen due), c.in-Some.ensures.next),
      (
        leb-false JOURNAL_LIMIT (length store.journal.history.entries) (sym c.if-is_full.ensures),
        no_room store.journal.room (λ some. never false refl (c.in-Err.ensures.ready some takes.0 takes.1)),
      ),
    )
