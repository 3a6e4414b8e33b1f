use Rattle.std.proofs.Common.{◌≡◌, ◌≤◌, ◌∷◌, ◌∙◌, Some, ap, arith, find, length, map, subst, sym}
use Rattle.std.specs.Prelude.{not}
use Rattle.nfs_rows.proofs.Each.{drop_none}
use Rattle.nfs_share.specs.Delegations.{StandInOrder, delegation_with_number, is_delegation_numbered, without_lent}
use Rattle.nfs_share.specs.KeptDelegations.{AreNotBefore, RoomyDelegations, mark_lent}
use Rattle.nfs_share.specs.Tally.{IsTally, mark_of}
use Rattle.nfs_share.proofs.AtMostOne.{none_passes}
use Rattle.nfs_share.proofs.DelegationOrder.{filter_in_order}
use Rattle.nfs_share.proofs.FirstRecalls.{not_before_filter}
use Rattle.nfs_share.proofs.LentPlaces.{IsPoint, removed_at}
use Rattle.nfs_share.proofs.LentTables.{lent_apart, lent_tally}
use Rattle.nfs_share.proofs.delegation_table.DelegationTable.give_back.Goals as goal

pub returns-in_default-clause-delegations : goal.returns-in_default-clause-delegations
returns-in_default-clause-delegations c =
    let ds = c.args.self.now.delegations in
    sym (drop_none (is_delegation_numbered c.args.number) ds (none_passes (is_delegation_numbered c.args.number) ds (sym c.in_default.is ∙ c.numbered.ensures)))

pub remove-back-requires : goal.remove-back-requires
remove-back-requires c =
    let s = c.self.inside in
    let t = c.self.invariant in
    let number = c.args.number in
    let ds = s.lent.items in
    let d = c.in-Some.back in
    let found : Some d ≡ find (is_delegation_numbered number) ds = sym c.in-Some.is ∙ c.numbered.ensures ∙ ap (λ (t : RoomyDelegations). delegation_with_number number t.delegations) (sym c.self.view_is) in
    let at = c.place_from-at.result in
    let bound : at ≤ length ds = subst (λ es. at ≤ length es) c.as_slice.ensures.value c.place_from-at.ensures.bound in
    let point : IsPoint number ds at = subst (λ es. IsPoint number es at) c.as_slice.ensures.value c.place_from-at.ensures.point in
    let removed = removed_at number ds at d t.order bound point found in
    omega (arith, removed.0)

pub invariant_of-self : goal.invariant_of-self
invariant_of-self c =
    let s = c.self.inside in
    let t = c.self.invariant in
    let number = c.args.number in
    let ds = s.lent.items in
    let d = c.in-Some.back in
    let found : Some d ≡ find (is_delegation_numbered number) ds = sym c.in-Some.is ∙ c.numbered.ensures ∙ ap (λ (t : RoomyDelegations). delegation_with_number number t.delegations) (sym c.self.view_is) in
    let at = c.place_from-at.result in
    let bound : at ≤ length ds = subst (λ es. at ≤ length es) c.as_slice.ensures.value c.place_from-at.ensures.bound in
    let point : IsPoint number ds at = subst (λ es. IsPoint number es at) c.as_slice.ensures.value c.place_from-at.ensures.point in
    let removed = removed_at number ds at d t.order bound point found in
    let left = without_lent (is_delegation_numbered number) ds in
    let apart = lent_apart number ds d t.order found in
    let gone : c.remove-back.new.self.items ≡ left = c.remove-back.ensures.items ∙ removed.1 in
    record {
      order = subst StandInOrder (sym gone) (filter_in_order (λ d. not (is_delegation_numbered number d)) ds t.order);
      tally = subst (λ es. IsTally c.remove.new.self (map mark_lent es)) (sym gone)
          (c.remove.ensures.tally (map mark_lent left)
          (subst (λ b. IsTally s.holders (mark_of d.client b ∷ map mark_lent left)) (sym c.is_writing.ensures) (lent_tally s.holders ds (d ∷ left) apart t.tally)));
      recalls = subst (AreNotBefore c.first_recall_left-self-inside.result) c.as_slice-2.ensures.value
          (c.first_recall_left-self-inside.ensures (subst (AreNotBefore s.first_recall) (sym (c.as_slice-2.ensures.value ∙ gone))
          (not_before_filter s.first_recall (λ d. not (is_delegation_numbered number d)) ds t.recalls)));
      in_list = omega (arith, t.in_list, c.remove-back.ensures.len, c.remove-back.ensures.capacity);
      in_tally = omega (arith, t.in_tally, c.remove.ensures.room);
    }

pub returns-clause-delegations : goal.returns-clause-delegations
returns-clause-delegations c =
    let s = c.self.inside in
    let t = c.self.invariant in
    let number = c.args.number in
    let ds = s.lent.items in
    let d = c.in-Some.back in
    let found : Some d ≡ find (is_delegation_numbered number) ds = sym c.in-Some.is ∙ c.numbered.ensures ∙ ap (λ (t : RoomyDelegations). delegation_with_number number t.delegations) (sym c.self.view_is) in
    let at = c.place_from-at.result in
    let bound : at ≤ length ds = subst (λ es. at ≤ length es) c.as_slice.ensures.value c.place_from-at.ensures.bound in
    let point : IsPoint number ds at = subst (λ es. IsPoint number es at) c.as_slice.ensures.value c.place_from-at.ensures.point in
    let removed = removed_at number ds at d t.order bound point found in
    c.remove-back.ensures.items ∙ removed.1 ∙ ap (λ (t : RoomyDelegations). without_lent (is_delegation_numbered number) t.delegations) c.self.view_is
