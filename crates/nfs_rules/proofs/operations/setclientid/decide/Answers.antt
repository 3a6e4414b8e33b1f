use Rattle.std.proofs.Common.{◌≡◌, Option, Some, None, Err, option_map, refl, subst}
use Rattle.std.specs.Prelude.{◌↔◌, Result}
use Rattle.std.specs.Result.{IsErrOf}
use Rattle.nfs_owners.specs.Registration.{Outcome, registration}
use Rattle.nfs_owners.specs.Registry.{confirmed_of, record_state}
use Rattle.nfs_owners.specs.declared.clients.client_change.ClientChange.{ClientChange}
use Rattle.nfs_owners.specs.declared.owners_error.OwnersError.{OwnersError}
use Rattle.nfs_owners.specs.declared.owners_error.OwnersError.TheVariants.{Full, Memory}
use Rattle.nfs_rules.specs.Deciding.{Decides}
use Rattle.nfs_rules.specs.operations.Setclientid.{decision_of, rule}
use Rattle.nfs_rules.proofs.Sequenced.{fails_as}
use Rattle.nfs_rules.proofs.operations.setclientid.decide.Goals as goal
use Rattle.nfs_state.specs.Room.{state_of}
use Rattle.nfs_state.specs.Shortage.{shortage_of}
use Rattle.nfs_state.specs.State.{State, record_has_state}
use Rattle.nfs_xdr.specs.declared.op.Op.{Op}
use Rattle.nfs_xdr.specs.declared.op.Op.TheVariants as ops

-- a registration that fails, by why it does
registration_fails : (o : Option (Outcome × ClientChange)) (state : State) (op : Op) (error : OwnersError) → (IsErrOf {T = Outcome × ClientChange} (Err error) Full ↔ (o ≡ None)) → Decides (λ d. d ≡ option_map decision_of o) state op (Err (shortage_of error))
registration_fails None state op Full full = refl
registration_fails None state op Memory full =
    let never : ◌≡◌ {A = Result (Outcome × ClientChange) OwnersError} (Err Memory) (Err Full) = full.1 refl in
    absurd cc
registration_fails (Some x) state op Full full =
    let none : Some x ≡ None = full.0 refl in
    absurd cc
registration_fails (Some x) state op Memory full = (decision_of x, refl)

pub returns-in_err-answer : goal.returns-in_err-answer
returns-in_err-answer c =
    let journal = c.args.store.now.journal.history in
    let state = state_of c.args.store.now.tables in
    let request = c.args.request.now in
    let args = c.args.args.now in
    let found = registration journal.epoch (record_has_state state (record_state (confirmed_of state.clients args.id))) state.clients request.principal args in
    let error = c.in_err-answer.field-0.0 in
    let same : registration c.epoch.result c.record_has_state-has_state.result state.clients request.principal args ≡ found = cc in
    let full : Option (Outcome × ClientChange) → Type 0 = λ o. IsErrOf {T = Outcome × ClientChange} (Err error) Full ↔ (o ≡ None) in
    fails_as (λ d. d ≡ rule journal state request args) state (ops.Setclientid args) (shortage_of error) c.from_residual.result c.from_residual.ensures.0 c.from_residual.ensures.1
    (registration_fails found state (ops.Setclientid args) error (subst full same c.in_err-answer.ensures.full))
