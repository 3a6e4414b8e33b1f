use Rattle.std.proofs.Common.{◌≡◌, ◌∙◌, ℕ, ap, refl, subst, sym}
use Rattle.nfs_rules.specs.entries.Revoke.{IsRevocation, end_of, return_of}
use Rattle.nfs_rules.proofs.FoundDelegations.{no_revocation, revoked_is_next}
use Rattle.nfs_rules.proofs.entries.revoke.revoke.Goals as goal
use Rattle.nfs_share.specs.AllOpens.{DelegationAt}
use Rattle.nfs_share.specs.OpenFound.{delegation_seen}
use Rattle.nfs_state.specs.Changes.{change_alone}
use Rattle.nfs_state.specs.Room.{state_of}
use Rattle.nfs_state.specs.declared.change.Change.TheVariants as changes
use Rattle.nfs_state.specs.declared.effect.Effect.{Effect}
use Rattle.nfs_state.specs.declared.entry.Revoke.{Revoke}
use Rattle.std.specs.Prelude.{IfNone, Option}

pub returns-in_err-next-clause-none : goal.returns-in_err-next-clause-none
returns-in_err-next-clause-none c =
    let journal = c.args.store.now.journal.history in
    let state = state_of c.args.store.now.tables in
    let revoke = c.args.revoke.now in
    let refused : (effect : Effect) → IsRevocation journal state revoke effect → ⊥ = λ effect is. no_revocation journal state revoke effect c.in_err-next.ensures.none is in
    subst (λ (r : Option Effect). IfNone r ((effect : Effect) → IsRevocation journal state revoke effect → ⊥)) (sym c.from_residual.ensures) refused

pub returns-then-next-revoke-clause-none : goal.returns-then-next-revoke-clause-none
returns-then-next-revoke-clause-none c = λ effect is.
    let journal = c.args.store.now.journal.history in
    let state = state_of c.args.store.now.tables in
    let revoke = c.args.revoke.now in
    let next : DelegationAt = delegation_seen c.in_ok-next.next in
    c.if-next-revoke.true (revoked_is_next journal state revoke (end_of next revoke.now) effect (return_of next) refl c.in_ok-next.ensures.next is)

pub returns-clause-revocation : goal.returns-clause-revocation
returns-clause-revocation c =
    let journal = c.args.store.now.journal.history in
    let state = state_of c.args.store.now.tables in
    let revoke = c.args.revoke.now in
    let next : DelegationAt = delegation_seen c.in_ok-next.next in
    let with_number : ℕ → Revoke = λ n. record { number = n; now = revoke.now } in
    let same : end_of next revoke.now ≡ revoke = ap with_number c.if-next-revoke.false in
    let effect : return_of next ≡ c.change_alone.result = ap (λ n. change_alone (changes.Returns next.node n)) c.if-next-revoke.false ∙ sym c.change_alone.ensures in
    subst (IsRevocation journal state revoke) effect (subst (λ (r : Revoke). IsRevocation journal state r (return_of next)) same c.in_ok-next.ensures.next)
