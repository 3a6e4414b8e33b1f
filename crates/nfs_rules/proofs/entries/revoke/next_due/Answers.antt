use Rattle.std.proofs.Common.{◌≡◌, ℕ, Option, Some, None, option_map, subst}
use Rattle.std.specs.Prelude.{IfNone, IfSome}
use Rattle.nfs_rules.specs.entries.Revoke.{IsRevocation, NoneDue, end_of, return_of}
use Rattle.nfs_rules.proofs.FoundDelegations.{next_may}
use Rattle.nfs_rules.proofs.entries.revoke.next_due.Goals as goal
use Rattle.nfs_share.specs.AllOpens.{IsNextDue, delegation_numbered_in}
use Rattle.nfs_share.specs.OpenFound.{delegation_seen}
use Rattle.nfs_share.specs.declared.opens.DelegationFound.{DelegationFound}
use Rattle.nfs_state.specs.Room.{state_of}
use Rattle.nfs_state.specs.State.{History, State}

some_may : (journal : History) (state : State) (lease now : ℕ) (found : Option DelegationFound) → lease ≡ journal.lease → IsNextDue lease now state.delegations (option_map delegation_seen found)
    → IfSome found (λ next. delegation_numbered_in next.state.number state.delegations ≡ Some (delegation_seen next))
    → IfSome found (λ next. IsRevocation journal state (end_of (delegation_seen next) now) (return_of (delegation_seen next)))
some_may journal state lease now None same is found = tt
some_may journal state lease now (Some next) same is found =
    next_may journal state now (delegation_seen next) (subst (λ l. IsNextDue l now state.delegations (Some (delegation_seen next))) same is) found

none_due : (journal : History) (state : State) (lease now : ℕ) (found : Option DelegationFound) → lease ≡ journal.lease → IsNextDue lease now state.delegations (option_map delegation_seen found)
    → IfNone found (NoneDue journal state now)
none_due journal state lease now None same is = subst (λ l. IsNextDue l now state.delegations None) same is
none_due journal state lease now (Some next) same is = tt

pub returns-clause-next : goal.returns-clause-next
returns-clause-next c =
    some_may c.args.store.now.journal.history (state_of c.args.store.now.tables) c.lease.result c.args.now c.next_due.result c.lease.ensures.value c.next_due.ensures.next c.next_due.ensures.found

pub returns-clause-none : goal.returns-clause-none
returns-clause-none c =
    none_due c.args.store.now.journal.history (state_of c.args.store.now.tables) c.lease.result c.args.now c.next_due.result c.lease.ensures.value c.next_due.ensures.next
