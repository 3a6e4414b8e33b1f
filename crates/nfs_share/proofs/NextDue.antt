-- The next delegation that is due.
use Rattle.std.proofs.Common.{◌≡◌, ℕ, ◌+◌, ◌<◌, ◌≤◌, List, [], ◌∷◌, ◌++◌, length, get_or, take, None, Some, sym, ◌∙◌, ap, subst, arith}
use Rattle.std.specs.Prelude.{Option, IsFalse, IsTrue, nat_lt}
use Rattle.std.specs.List.{AllByRecursion, Contains}
use Rattle.std.proofs.lemmas.Bool.{cond_both, false≢true, ltb-true, ltb-false}
use Rattle.std.proofs.lemmas.List.{take_more}
use Rattle.nfs_share.specs.AllOpens.{DelegationAt, IsNextDue, delegations_of, lent_at, lesser_at}
use Rattle.nfs_share.specs.Delegations.{IsNextDueOf, is_due}
use Rattle.nfs_share.specs.declared.delegation.Delegation.{Delegation}
use Rattle.nfs_share.proofs.EachElement.{all_push, all_weaken}

module _ (lease now : ℕ) where
  -- none of those seen is due
  abbrev AreUndue : List Delegation → Type 0
  AreUndue seen = AllByRecursion (λ d. IsFalse (is_due lease now d)) seen

  -- each of those seen that is due has no lesser number
  abbrev AreAbove : ℕ → List Delegation → Type 0
  AreAbove number seen = AllByRecursion (λ d. IsTrue (is_due lease now d) → number ≤ d.number) seen

  undue_above : (number : ℕ) (seen : List Delegation) → AreUndue seen → AreAbove number seen
  undue_above number seen none =
      all_weaken (λ d. IsFalse (is_due lease now d)) (λ d. IsTrue (is_due lease now d) → number ≤ d.number)
      (λ d undue due. absurd (false≢true (sym undue ∙ due))) seen none

  lower_above : (number lower : ℕ) (seen : List Delegation) → lower ≤ number → AreAbove number seen → AreAbove lower seen
  lower_above number lower seen below each =
      all_weaken (λ d. IsTrue (is_due lease now d) → number ≤ d.number) (λ d. IsTrue (is_due lease now d) → lower ≤ d.number)
      (λ d above due. omega (arith, above due, below)) seen each

  -- of the delegations of all files, this is the next one that is due among those of the files seen
  abbrev pub IsLeast : List (List Delegation) → List (List Delegation) → Option DelegationAt → Type 0
  IsLeast all seen None = AllByRecursion AreUndue seen
  IsLeast all seen (Some next) = Contains (delegations_of next.node all) next.state
      × IsTrue (is_due lease now next.state) × AllByRecursion (AreAbove next.state.number) seen

  file_more : (all seen : List (List Delegation)) (node : ℕ) (ds : List Delegation) (next : Option DelegationAt) (found : Option Delegation)
      → delegations_of node all ≡ ds → IsNextDueOf lease now ds found
      → IsLeast all seen next → IsLeast all (seen ++ ds ∷ []) (lesser_at next (lent_at node found))
  file_more all seen node ds None None is one none = all_push AreUndue seen ds none one
  file_more all seen node ds None (Some d) is one none =
      (subst (λ xs. Contains xs d) (sym is) one.0, one.1, all_push (AreAbove d.number) seen ds (all_weaken AreUndue (AreAbove d.number) (undue_above d.number) seen none) one.2)
  file_more all seen node ds (Some n) None is one least =
      (least.0, least.1, all_push (AreAbove n.state.number) seen ds least.2 (undue_above n.state.number ds one))
  file_more all seen node ds (Some n) (Some d) is one least =
      let here : DelegationAt = record { node = node; state = d } in
      cond_both (nat_lt d.number n.state.number) (Some here) (Some n) (IsLeast all (seen ++ ds ∷ []))
      (λ less. (
        subst (λ xs. Contains xs d) (sym is) one.0,
        one.1,
        all_push (AreAbove d.number) seen ds
            (all_weaken (AreAbove n.state.number) (AreAbove d.number) (λ xs. lower_above n.state.number d.number xs (omega (arith, ltb-true d.number n.state.number less))) seen least.2) one.2,
      ))
      (λ not_less. (
        least.0,
        least.1,
        all_push (AreAbove n.state.number) seen ds least.2
            (lower_above d.number n.state.number ds (omega (arith, ltb-false d.number n.state.number not_less)) one.2),
      ))

  -- the loop comes by one more file
  pub file_at : (all : List (List Delegation)) (node : ℕ) (ds : List Delegation) (next new : Option DelegationAt) (found : Option Delegation) → node < length all
      → ds ≡ get_or all node ds → delegations_of node all ≡ ds → IsNextDueOf lease now ds found → new ≡ lesser_at next (lent_at node found)
      → IsLeast all (take node all) next → IsLeast all (take (node + 1) all) new
  file_at all node ds next new found below is there one new_is least =
      let seen : take (node + 1) all ≡ take node all ++ ds ∷ [] = take_more all node ds below ∙ ap (λ xs. take node all ++ xs ∷ []) (sym is) in
      subst (λ xs. IsLeast all xs new) (sym seen) (subst (IsLeast all (take node all ++ ds ∷ [])) (sym new_is) (file_more all (take node all) node ds next found there one least))

  pub next_of_all : (all seen : List (List Delegation)) (next : Option DelegationAt) → seen ≡ all → IsLeast all seen next → IsNextDue lease now all next
  next_of_all all seen None end least = subst (AllByRecursion AreUndue) end least
  next_of_all all seen (Some next) end least = (least.0, least.1, subst (AllByRecursion (AreAbove next.state.number)) end least.2)
