-- Delegations that are found by a stateid, by a number, or as the next one that is due.
use Rattle.std.proofs.Common.{◌≡◌, ◌≤◌, ℕ, zero, suc, Bool, true, false, Option, Some, None, List, [], ◌∷◌, refl, sym, ap, ◌∙◌, subst, arith}
use Rattle.std.proofs.lemmas.Bool.{eqb-true}
use Rattle.std.specs.Prelude.{◌==◌, IsTrue, IsFalse, find, option_map, position, if◌then◌else◌}
use Rattle.std.specs.List.{AllByRecursion, list_any}
use Rattle.nfs_rules.specs.entries.Revoke.{IsNoneBefore, IsRevocation, NoneDue, end_of, return_of}
use Rattle.nfs_share.specs.AllOpens.{DelegationAt, IsNextDue, delegation_numbered_in, delegations_of, lent_at, lent_found}
use Rattle.nfs_share.specs.Delegations.{is_delegation_numbered, is_due}
use Rattle.nfs_share.specs.declared.delegation.Delegation.{Delegation}
use Rattle.nfs_state.specs.State.{State, History}
use Rattle.nfs_state.specs.declared.effect.Effect.{Effect}
use Rattle.nfs_state.specs.declared.entry.Revoke.{Revoke}

-- what holds of all delegations of all files
abbrev pub OfAll : (Delegation → Type 0) → List (List Delegation) → Type 0
OfAll P all = AllByRecursion (AllByRecursion P) all

-- what holds of all holds of those of one file
at_node : (P : Delegation → Type 0) (node : ℕ) (all : List (List Delegation)) → OfAll P all → AllByRecursion P (delegations_of node all)
at_node P node [] holds = tt
at_node P zero (ds ∷ all) holds = holds.0
at_node P (suc node) (ds ∷ all) holds = at_node P node all holds.1

same_some : (a b : Delegation) → Some a ≡ Some b → a ≡ b
same_some a b same = search same

-- the delegation that is found passes the test
found_passes : (P : Delegation → Type 0) (p : Delegation → Bool) (ds : List Delegation) (d : Delegation) → find p ds ≡ Some d → AllByRecursion P ds → P d × (p d ≡ true)
found_passes P p [] d found holds = absurd cc
found_passes P p (first ∷ ds) d found holds = by (λ found. found_passes P p ds d found holds.1) (p first) refl found
  where
    by : (find p ds ≡ Some d → P d × (p d ≡ true)) → (b : Bool) → p first ≡ b → (if b then Some first else find p ds) ≡ Some d → P d × (p d ≡ true)
    by rest true is found = subst (λ e. P e × (p e ≡ true)) (same_some first d found) (holds.0, is)
    by rest false is found = rest found

lent_is : (node : ℕ) (found : Option Delegation) (at : DelegationAt) → lent_at node found ≡ Some at → found ≡ Some at.state
lent_is node None at is = absurd cc
lent_is node (Some d) at is = ap (option_map (λ (at : DelegationAt). at.state)) is

-- what holds of all delegations holds of the one with a number
pub numbered_has : (P : Delegation → Type 0) (number : ℕ) (all : List (List Delegation)) (at : DelegationAt) → delegation_numbered_in number all ≡ Some at → OfAll P all → P at.state × IsTrue (at.state.number == number)
numbered_has P number all at found holds = by (position (list_any (is_delegation_numbered number)) all) found
  where
    by : (node : Option ℕ) → lent_found (is_delegation_numbered number) all node ≡ Some at → P at.state × IsTrue (at.state.number == number)
    by None found = absurd cc
    by (Some node) found = found_passes P (is_delegation_numbered number) (delegations_of node all) at.state (lent_is node _ at found) (at_node P node all holds)

-- the next delegation that is due may be taken away
pub next_may : (journal : History) (state : State) (now : ℕ) (next : DelegationAt) → IsNextDue journal.lease now state.delegations (Some next)
    → delegation_numbered_in next.state.number state.delegations ≡ Some next → IsRevocation journal state (end_of next now) (return_of next)
next_may journal state now next is found = record { at = next; found = found; due = is.1; least = is.2; removal = refl }

-- where no delegation is due, there is none to take away
pub no_revocation : (journal : History) (state : State) (revoke : Revoke) (effect : Effect) → NoneDue journal state revoke.now → IsRevocation journal state revoke effect → ⊥
no_revocation journal state revoke effect none is =
    let undue = (numbered_has (λ d. IsFalse (is_due journal.lease revoke.now d)) revoke.number state.delegations is.at is.found none).0 in
    let both : true ≡ false = sym is.due ∙ undue in
    absurd cc

-- of two delegations that may be taken away at one moment, neither has the greater number
pub revoked_is_next : (journal : History) (state : State) (revoke next : Revoke) (effect other : Effect) → next.now ≡ revoke.now → IsRevocation journal state next other → IsRevocation journal state revoke effect
    → next.number ≡ revoke.number
revoked_is_next journal state revoke next effect other same comes is =
    let found = numbered_has (IsNoneBefore journal next) revoke.number state.delegations is.at is.found comes.least in
    let below : next.number ≤ is.at.state.number = found.0 (ap (λ now. is_due journal.lease now is.at.state) same ∙ is.due) in
    let first = numbered_has (IsNoneBefore journal revoke) next.number state.delegations comes.at comes.found is.least in
    let above : revoke.number ≤ comes.at.state.number = first.0 (ap (λ now. is_due journal.lease now comes.at.state) (sym same) ∙ comes.due) in
    omega (arith, below, above, eqb-true is.at.state.number revoke.number found.1, eqb-true comes.at.state.number next.number first.1)
