-- A delegation that may be taken away is due.
use Rattle.std.proofs.Common.{◌≡◌, ℕ, Bool, false, Option, Some, None, List, refl, subst}
use Rattle.std.specs.Prelude.{find, position}
use Rattle.std.specs.List.{AllByRecursion, list_any}
use Rattle.nfs_core.proofs.SafeFiles.{lists_at}
use Rattle.nfs_core.proofs.SafeLists.{all_find}
use Rattle.nfs_core.proofs.SoundSequences.{never, some_equal}
use Rattle.nfs_core.specs.Events.{MayHappen, NoneIsDue, revoke_of}
use Rattle.nfs_core.specs.declared.event.Event.TheVariants as events
use Rattle.nfs_core.specs.Server.{Server}
use Rattle.nfs_share.specs.AllOpens.{DelegationAt, delegations_of, lent_at, lent_found, lent_in}
use Rattle.nfs_share.specs.Delegations.{is_delegation_numbered, is_due}
use Rattle.nfs_share.specs.declared.delegation.Delegation.{Delegation}

-- what holds of each delegation holds of the one that is found

found_in_node : (P : Delegation → Type 0) (test : Delegation → Bool) (ds : List Delegation) (node : ℕ) (at : DelegationAt) → AllByRecursion P ds → lent_at node (find test ds) ≡ Some at → P at.state
found_in_node P test ds node at holds is = by (find test ds) refl is
  where
    by : (found : Option Delegation) → find test ds ≡ found → lent_at node found ≡ Some at → P at.state
    by None found same = absurd cc
    by (Some d) found same =
        let here : DelegationAt = record { node = node; state = d } in
        subst (λ (a : DelegationAt). P a.state) (some_equal here at same) (all_find P test ds d found holds).0

found_holds : (P : Delegation → Type 0) (test : Delegation → Bool) (all : List (List Delegation)) (at : DelegationAt) → AllByRecursion (AllByRecursion P) all → lent_in test all ≡ Some at → P at.state
found_holds P test all at holds is = by (position (list_any test) all) is
  where
    by : (node : Option ℕ) → lent_found test all node ≡ Some at → P at.state
    by None same = absurd cc
    by (Some node) same = found_in_node P test (delegations_of node all) node at (lists_at (AllByRecursion P) tt node all holds) same

-- where one may be taken away, one is due
pub one_due : (server : Server) (now number : ℕ) → MayHappen server (events.Revoke (revoke_of number now)) → NoneIsDue server now → ⊥
one_due server now number may none =
    let lease = server.journal.lease in
    let revocation = may.1 in
    never (is_due lease now revocation.at.state)
    (found_holds (λ d. is_due lease now d ≡ false) (is_delegation_numbered number) server.stored.delegations revocation.at none revocation.found)
    revocation.due
