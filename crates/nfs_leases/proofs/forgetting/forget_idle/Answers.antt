-- The loop goes one owner further, until none may be forgotten or one is refused.
use Rattle.std.proofs.Common.{[], ◌∷◌, ◌++◌, Option, refl, sym, subst, ◌∙◌, arith, length-append}
use Rattle.nfs_core.specs.Events.{IsForgottenFrom, NoneIsDue}
use Rattle.nfs_core.specs.Server.{Server}
use Rattle.nfs_core.specs.declared.forgotten.Forgotten.{Forgotten}
use Rattle.nfs_leases.proofs.ForgottenOwners.{due_alike, forgets_more, forgets_none, none_before_first, stops}
use Rattle.nfs_leases.proofs.forgetting.forget_idle.Goals as goal

pub loop-forgotten-init : goal.loop-forgotten-init
loop-forgotten-init c = (
  [],
  refl,
  forgets_none c.args.now c.args.core.now,
  none_before_first c.args.now c.args.core.now,
  c.journal.ensures.lawful,
  refl,
)

pub loop-forgotten-preserved : goal.loop-forgotten-preserved
loop-forgotten-preserved c =
    let i = c.loop-forgotten.invariant in
    let forgotten = c.in-Ok-Some.forgotten in
    let told =
    subst (λ (o : Option Forgotten). IsForgottenFrom c.loop-forgotten.core c.forget_from.new.self c.args.now o)
    (c.in-Ok-Some.field-0-is) c.in-Ok-Some.ensures.forgotten in
    let more =
    forgets_more c.live_clients_follow.ensures.events c.args.now forgotten.number i.0 c.args.core.now
    c.loop-forgotten.core c.forget_from.new.self i.4 i.2 told.0 in (
      i.0 ++ told.0.0 ∷ [],
      omega (arith, i.1, length-append i.0 (told.0.0 ∷ [])),
      more,
      told.1,
      c.forget_from.ensures.lawful,
      c.forget_from.ensures.recalls ∙ i.5,
    )

pub returns-in-Ok-None-clause-due : goal.returns-in-Ok-None-clause-due
returns-in-Ok-None-clause-due c =
    let i = c.loop-forgotten.invariant in
    let same =
    subst (λ (o : Option Forgotten). IsForgottenFrom c.loop-forgotten.core c.forget_from.new.self c.args.now o)
    c.in-Ok-None.field-0-is c.in-Ok-None.ensures.forgotten in
    λ none. subst (λ (s : Server). NoneIsDue s c.args.now) (sym same) (i.2.due none)

pub returns-in-Err-clause-forgets : goal.returns-in-Err-clause-forgets
returns-in-Err-clause-forgets c =
    let i = c.loop-forgotten.invariant in (
      i.0,
      i.1,
      stops c.args.now i.0 c.in-Err.error c.args.core.now c.loop-forgotten.core c.forget_from.new.self i.2
          c.in-Err.ensures.same c.in-Err.ensures.error,
    )

pub returns-in-Err-clause-due : goal.returns-in-Err-clause-due
returns-in-Err-clause-due c =
    let i = c.loop-forgotten.invariant in
    λ none. due_alike c.args.now c.loop-forgotten.core c.forget_from.new.self c.in-Err.ensures.same (i.2.due none)
