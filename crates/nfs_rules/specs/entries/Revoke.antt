-- The end of a delegation that was called back and not given back within a lease (RFC 7530, section 10.4.6).
use Rattle.std.specs.Prelude.{◌≡◌, ◌≤◌, ℕ, IsFalse, IsTrue, Some}
use Rattle.std.specs.List.{AllByRecursion}
use Rattle.nfs_share.specs.AllOpens.{DelegationAt, delegation_numbered_in}
use Rattle.nfs_share.specs.Delegations.{is_due}
use Rattle.nfs_share.specs.declared.delegation.Delegation.{Delegation}
use Rattle.nfs_state.specs.Changes.{change_alone}
use Rattle.nfs_state.specs.State.{State, History}
use Rattle.nfs_state.specs.declared.change.Change.TheVariants as changes
use Rattle.nfs_state.specs.declared.effect.Effect.{Effect}
use Rattle.nfs_state.specs.declared.entry.Revoke.{Revoke}

-- the delegation isn't due, or has no lesser number than the one that is revoked
abbrev pub IsNoneBefore : History → Revoke → Delegation → Type 0
IsNoneBefore journal revoke d =
    IsTrue (is_due journal.lease revoke.now d) → revoke.number ≤ d.number

-- no delegation is due at this moment
abbrev pub NoneDue : History → State → ℕ → Type 0
NoneDue journal state now =
    AllByRecursion (AllByRecursion (λ d. IsFalse (is_due journal.lease now d))) state.delegations

-- the end of the delegation at this moment
abbrev pub end_of : DelegationAt → ℕ → Revoke
end_of at now = record { number = at.state.number; now = now }

-- what it changes
abbrev pub return_of : DelegationAt → Effect
return_of at = change_alone (changes.Returns at.node at.state.number)

-- In this state, after this journal, the delegation may be taken away, with this effect: it is due, and of those that
-- are due it has the least number.
pub record IsRevocation (journal : History) (state : State) (revoke : Revoke)
    (effect : Effect) : Type 0 where
  pub at : DelegationAt
  pub found : delegation_numbered_in revoke.number state.delegations ≡ Some at
  pub due : IsTrue (is_due journal.lease revoke.now at.state)
  pub least : AllByRecursion (AllByRecursion (IsNoneBefore journal revoke)) state.delegations
  pub removal : effect ≡ change_alone (changes.Returns at.node revoke.number)
