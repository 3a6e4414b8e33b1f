-- The next delegation that is due is the one that is found by its number.
use Rattle.std.proofs.Common.{◌≡◌, ℕ, zero, suc, ◌+◌, ◌≤◌, Bool, cond, List, [], ◌∷◌, find, Option, Some, None, refl, sym, ap, subst, ◌∙◌, arith}
use Rattle.std.specs.Prelude.{IfSome, option_map, slice_get}
use Rattle.std.specs.List.{AllByRecursion, Contains}
use Rattle.std.proofs.lemmas.Bool.{eqb-false, eqb-true, false_from_ne_true, true_from_ne_false}
use Rattle.std.proofs.lemmas.List.Elements.{All-contains, All-from_recursion}
use Rattle.nfs_share.specs.AllOpens.{DelegationAt, IsNextDue, delegation_numbered_in, delegations_of, lent_at}
use Rattle.nfs_share.specs.Delegations.{is_delegation_numbered}
use Rattle.nfs_share.specs.OpenFound.{delegation_seen}
use Rattle.nfs_share.specs.OpenNodes.{lent_number}
use Rattle.nfs_share.specs.declared.delegation.Delegation.{Delegation}
use Rattle.nfs_share.specs.declared.opens.DelegationFound.{DelegationFound}
use Rattle.nfs_share.proofs.EachElement.{all_weaken}
use Rattle.nfs_share.proofs.Indexed.{lent_in_one, only_numbered}
use Rattle.nfs_nodes.specs.Nodes.{RoomyNodes, node_of}
use Rattle.nfs_nodes.specs.Numbers.{Rise, StandFrom}
use Rattle.nfs_nodes.proofs.Callers.{somewhere}

-- the delegation is the first with its number, which isn't below this one
abbrev IsFirst : ℕ → List Delegation → Delegation → Type 0
IsFirst from ds d = (from ≤ d.number) × (find (is_delegation_numbered d.number) ds ≡ Some d)

each_first : (from : ℕ) (ds : List Delegation) → Rise lent_number from ds → AllByRecursion (IsFirst from ds) ds
each_first from [] rise = tt
each_first from (d ∷ ds) rise = (
  (
    rise.0,
    ap (λ b. cond b (Some d) (find (is_delegation_numbered d.number) ds)) (true_from_ne_false (is_delegation_numbered d.number d) (λ differs. eqb-false d.number d.number differs refl)),
  ),
  all_weaken (IsFirst (suc d.number) ds) (IsFirst from (d ∷ ds))
      (λ e first. (
        omega (arith, first.0, rise.0),
        ap (λ b. cond b (Some d) (find (is_delegation_numbered e.number) ds))
            (false_from_ne_true (is_delegation_numbered e.number d) (λ same. omega (arith, first.0, eqb-true d.number e.number same)))
            ∙ first.1,
      ))
      ds (each_first (suc d.number) ds rise.1),
)

contained : (P : Delegation → Type 0) (ds : List Delegation) (d : Delegation) → AllByRecursion P ds → Contains ds d → P d
contained P ds d holds has = All-contains P ds d (All-from_recursion P ds holds) has

module _ (nodes : RoomyNodes) where
  -- a delegation of the file at a place is led to by its number, and is the first there that has it
  at_place : (from place : ℕ) (lists : List (List Delegation)) (d : Delegation) → StandFrom lent_number nodes from lists → Contains (delegations_of place lists) d
      → (slice_get lists place ≡ Some (delegations_of place lists)) × (node_of d.number nodes ≡ Some (from + place))
      × (find (is_delegation_numbered d.number) (delegations_of place lists) ≡ Some d)
  at_place from place [] d stand has = absurd (omega (arith, has.1))
  at_place from zero (ds ∷ lists) d stand has = (
    refl,
    contained (λ e. node_of e.number nodes ≡ Some from) ds d stand.0.0 has ∙ ap Some (omega arith),
    (contained (IsFirst 0 ds) ds d (each_first 0 ds stand.0.1) has).1,
  )
  at_place from (suc place) (ds ∷ lists) d stand has =
      let rest = at_place (from + 1) place lists d stand.1 has in
      (rest.0, rest.1 ∙ ap Some (omega arith), rest.2)

  next_found : (lists : List (List Delegation)) (next : DelegationAt) → StandFrom lent_number nodes 0 lists → Contains (delegations_of next.node lists) next.state
      → delegation_numbered_in next.state.number lists ≡ Some next
  next_found lists next stand has =
      let n = next.state.number in
      let ds = delegations_of next.node lists in
      let at = at_place 0 next.node lists next.state stand has in
      let this : 0 + next.node ≡ next.node = omega arith in
      sym (lent_in_one (is_delegation_numbered n) lists next.node ds at.0
      (somewhere lent_number nodes (is_delegation_numbered n) n (only_numbered n) lists next.node ds (at.1 ∙ ap Some this) at.0 stand))
      ∙ ap (lent_at next.node) at.2

  pub next_numbered : (lease now : ℕ) (lists view : List (List Delegation)) (found : Option DelegationFound) → lists ≡ view → StandFrom lent_number nodes 0 lists
      → IsNextDue lease now view (option_map delegation_seen found)
      → IfSome found (λ next. delegation_numbered_in next.state.number view ≡ Some (delegation_seen next))
  next_numbered lease now lists view None same stand is = tt
  next_numbered lease now lists view (Some next) same stand is =
      next_found view (delegation_seen next) (subst (StandFrom lent_number nodes 0) same stand) is.0
