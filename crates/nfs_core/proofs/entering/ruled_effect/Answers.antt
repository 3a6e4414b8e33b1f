use Rattle.std.proofs.Common.{◌≡◌, Result, subst, sym}
use Rattle.std.specs.Prelude.{IfErr}
use Rattle.std.specs.Option.{ok_or}
use Rattle.std.proofs.lemmas.Result.{err_from_is_err_and}
use Rattle.nfs_core.proofs.NextEntries.{forgetting_refused, revocation_refused}
use Rattle.nfs_core.proofs.entering.ruled_effect.Goals as goal
use Rattle.nfs_core.specs.CoreError.{error_of_forget}
use Rattle.nfs_core.specs.Events.{IsNotRuled}
use Rattle.nfs_core.specs.Server.{server_of}
use Rattle.nfs_core.specs.declared.core_error.CoreError.{CoreError}
use Rattle.nfs_core.specs.declared.core_error.CoreError.TheVariants.{NotDue}
use Rattle.nfs_core.specs.declared.event.Event.{Event}
use Rattle.nfs_state.specs.declared.effect.Effect.{Effect}

pub returns-in-Revoke-clause-refused : goal.returns-in-Revoke-clause-refused
returns-in-Revoke-clause-refused c =
    let server = server_of c.args.held.now in
    subst (λ (r : Result Effect CoreError). IfErr r (IsNotRuled server c.args.event.now)) (sym c.ok_or.ensures.value)
    (subst (λ (e : Event). IfErr (ok_or c.revoke.result NotDue) (IsNotRuled server e)) (sym c.in-Revoke.is)
    (revocation_refused server c.in-Revoke.event c.revoke.result c.revoke.ensures.none))

pub returns-in_err-forget-in-Forget-clause-refused : goal.returns-in_err-forget-in-Forget-clause-refused
returns-in_err-forget-in-Forget-clause-refused c =
    let server = server_of c.args.held.now in
    let why = c.in_err-forget-in-Forget.field-0.0 in
    let failed = err_from_is_err_and c.from_residual-in_err-forget-in-Forget.result c.from_residual-in_err-forget-in-Forget.ensures.1 in
    let is : failed.0 ≡ error_of_forget why = failed.2 in
    let refused = forgetting_refused server c.in-Forget.event c.forget.result why c.in_err-forget-in-Forget.was c.forget.ensures.not_due c.forget.ensures.memory in
    subst (λ (r : Result Effect CoreError). IfErr r (IsNotRuled server c.args.event.now)) (sym failed.1)
    (subst (λ (e : CoreError). IsNotRuled server c.args.event.now e) (sym is)
    (subst (λ (e : Event). IsNotRuled server e (error_of_forget why)) (sym c.in-Forget.is) refused))
