-- A CLOSE of an open that was found: what it answers can be sent, whether bytes under it are locked or not.
use Rattle.std.proofs.Common.{◌≡◌, ◌∙◌, ℕ, Some, Ok, Err, ap, refl, subst, sym}
use Rattle.std.specs.Prelude.{Result}
use Rattle.std.proofs.lemmas.Bool.{cond_both}
use Rattle.nfs_forms.specs.declared.status.Refusal.{Refusal}
use Rattle.nfs_forms.specs.declared.status.Refusal.TheVariants.{LocksHeld}
use Rattle.nfs_locks.specs.AllLocks.{locks_of}
use Rattle.nfs_locks.specs.Locks.{holds_under}
use Rattle.nfs_operations.specs.declared.close.Close.{Close}
use Rattle.nfs_rules.specs.Deciding.{ByOwnRule}
use Rattle.nfs_rules.specs.Refusing.{◌>>=◌}
use Rattle.nfs_rules.specs.Stateids.{as_open, confirmed_open, verdict}
use Rattle.nfs_rules.specs.declared.passage.Passage.{Passage}
use Rattle.nfs_rules.specs.declared.ruling.Ruling.{Ruling}
use Rattle.nfs_rules.specs.operations.Close.{closing, own, unless_held}
use Rattle.nfs_share.specs.AllOpens.{OpenAt}
use Rattle.nfs_state.specs.Entries.{IsSendable}
use Rattle.nfs_state.specs.Room.{IsWithinLimits}
use Rattle.nfs_state.specs.State.{History, State}
use Rattle.nfs_state.specs.declared.request.Request.{Request}
use Rattle.nfs_tree.specs.declared.policy.CloseLocks.{CloseLocks}
use Rattle.nfs_tree.specs.declared.policy.CloseLocks.TheVariants as policies
use Rattle.nfs_xdr.specs.declared.op.Op.TheVariants as ops

-- the ruling can be sent, and passes no limit
abbrev IsFit : State → Close → Ruling → Type 0
IsFit state args ruling = IsSendable (ops.Close args) ruling.answer × IsWithinLimits ruling.change state

closed_fit : (state : State) (args : Close) (at : OpenAt) → IsFit state args (closing (Ok at))
closed_fit state args at = (record { not_resource = λ same. absurd cc; opnum = refl; short = tt }, tt)

held_fit : (state : State) (args : Close) → IsFit state args (closing (Err LocksHeld))
held_fit state args = (record { not_resource = λ same. absurd cc; opnum = refl; short = tt }, tt)

closing_fit : (policy : CloseLocks) (state : State) (args : Close) (at : OpenAt) → IsFit state args (closing (unless_held policy state at))
closing_fit policies.Free state args at = closed_fit state args at
closing_fit policies.Refuse state args at =
    cond_both (holds_under at.state.number (locks_of at.node state.locks)) (Err LocksHeld) (Ok at) (λ (f : Result OpenAt Refusal). IsFit state args (closing f))
    (λ _. held_fit state args) (λ _. closed_fit state args at)

pub closing_ruled : (journal : History) (state : State) (args : Close) (request : Request) (node : ℕ) (passage : Passage) (at : OpenAt) (ruling : Ruling)
    → ruling ≡ closing (unless_held journal.policy.close_locks state at) → Ok at ≡ (verdict (confirmed_open node) journal.epoch state args.stateid >>= as_open)
    → ByOwnRule (own journal state args request node passage) state (ops.Close args) (Ok ruling)
closing_ruled journal state args request node passage at ruling is found =
    let policy = journal.policy.close_locks in
    let fit : IsFit state args ruling = subst (IsFit state args) (sym is) (closing_fit policy state args at) in (
      ap Some is ∙ ap (λ (f : Result OpenAt Refusal). Some (closing (f >>= unless_held policy state))) found,
      fit.0,
      fit.1,
    )
