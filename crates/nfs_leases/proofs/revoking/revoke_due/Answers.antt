-- The loop goes one revocation further, until none is due or one is refused.
use Rattle.std.proofs.Common.{ℕ, [], ◌∷◌, ◌++◌, Option, Ok, refl, sym, ap, subst, ◌∙◌, arith, length-append}
use Rattle.nfs_core.specs.Events.{IsRevoked}
use Rattle.nfs_core.specs.Server.{Server}
use Rattle.nfs_leases.proofs.RevokedDelegations.{clients_alike, count_below, ends, entries_left, revokes_more, revokes_none, stops}
use Rattle.nfs_leases.proofs.revoking.revoke_due.Goals as goal

pub loop-count-init : goal.loop-count-init
loop-count-init c = ([], refl, revokes_none c.args.now c.args.core.now, c.journal.ensures.lawful, refl)

pub overflow_add-count : goal.overflow_add-count
overflow_add-count c =
    let i = c.loop-count.invariant in
    let number = c.in-Ok-Some.field-0-0 in
    let revoked =
    subst (λ (o : Option ℕ). IsRevoked c.loop-count.core c.revoke.new.self c.args.now o) c.in-Ok-Some.field-0-is
    c.in-Ok-Some.ensures.revoked in
    let below = count_below c.args.now i.0 number c.args.core.now c.loop-count.core c.revoke.new.self i.2 revoked in
    omega (arith, i.1, below)

pub loop-count-smaller : goal.loop-count-smaller
loop-count-smaller c =
    let revoked =
    subst (λ (o : Option ℕ). IsRevoked c.loop-count.core c.revoke.new.self c.args.now o) c.in-Ok-Some.field-0-is
    c.in-Ok-Some.ensures.revoked in
    entries_left c.args.now c.in-Ok-Some.field-0-0 c.loop-count.core c.revoke.new.self revoked

pub loop-count-preserved : goal.loop-count-preserved
loop-count-preserved c =
    let i = c.loop-count.invariant in
    let number = c.in-Ok-Some.field-0-0 in
    let revoked =
    subst (λ (o : Option ℕ). IsRevoked c.loop-count.core c.revoke.new.self c.args.now o) c.in-Ok-Some.field-0-is
    c.in-Ok-Some.ensures.revoked in
    let more =
    revokes_more c.live_clients_follow.ensures.events c.args.now i.0 number c.args.core.now c.loop-count.core
    c.revoke.new.self i.3 i.2 revoked in (
      i.0 ++ number ∷ [],
      omega (arith, i.1, length-append i.0 (number ∷ [])),
      more,
      c.revoke.ensures.lawful,
      c.revoke.ensures.recalls ∙ i.4,
    )

pub returns-in-Ok-None-clause-revokes : goal.returns-in-Ok-None-clause-revokes
returns-in-Ok-None-clause-revokes c =
    let i = c.loop-count.invariant in
    let same =
    subst (λ (o : Option ℕ). IsRevoked c.loop-count.core c.revoke.new.self c.args.now o) c.in-Ok-None.field-0-is
    c.in-Ok-None.ensures.revoked in
    let none = c.revoke.ensures.none.0 (c.in-Ok-None.is ∙ ap Ok c.in-Ok-None.field-0-is) in
    (i.0, i.1, ends c.args.now i.0 c.args.core.now c.loop-count.core c.revoke.new.self i.2 same none)

pub returns-in-Ok-None-clause-clients : goal.returns-in-Ok-None-clause-clients
returns-in-Ok-None-clause-clients c =
    let i = c.loop-count.invariant in
    let same =
    subst (λ (o : Option ℕ). IsRevoked c.loop-count.core c.revoke.new.self c.args.now o) c.in-Ok-None.field-0-is
    c.in-Ok-None.ensures.revoked in
    clients_alike c.args.core.now c.loop-count.core c.revoke.new.self i.2.clients (ap (λ (s : Server). s.stored) (sym same))

pub returns-in-Err-clause-revokes : goal.returns-in-Err-clause-revokes
returns-in-Err-clause-revokes c =
    let i = c.loop-count.invariant in (
      i.0,
      i.1,
      stops c.args.now i.0 c.in-Err.error c.args.core.now c.loop-count.core c.revoke.new.self i.2
          c.in-Err.ensures.same c.in-Err.ensures.error,
    )

pub returns-in-Err-clause-clients : goal.returns-in-Err-clause-clients
returns-in-Err-clause-clients c =
    clients_alike c.args.core.now c.loop-count.core c.revoke.new.self c.loop-count.invariant.2.clients
    (sym c.in-Err.ensures.same.1)
