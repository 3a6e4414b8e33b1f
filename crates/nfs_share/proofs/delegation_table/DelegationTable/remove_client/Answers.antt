use Rattle.std.proofs.Common.{◌≡◌, ◌∙◌, ap, arith, false, map, rules, subst, sym}
use Rattle.std.specs.Prelude.{not}
use Rattle.std.proofs.lemmas.Fn.{filter_same}
use Rattle.nfs_rows.proofs.Each.{drop_none}
use Rattle.nfs_share.specs.Delegations.{StandInOrder, is_lent_to, without_lent}
use Rattle.nfs_share.specs.KeptDelegations.{AreNotBefore, RoomyDelegations, mark_lent}
use Rattle.nfs_share.specs.Tally.{IsTally}
use Rattle.nfs_share.proofs.DelegationOrder.{filter_in_order}
use Rattle.nfs_share.proofs.EachElement.{all_fail}
use Rattle.nfs_share.proofs.LentTables.{marks_left}
use Rattle.nfs_share.proofs.delegation_table.DelegationTable.remove_client.Goals as goal

pub returns-then-not-has_client-clause-delegations : goal.returns-then-not-has_client-clause-delegations
returns-then-not-has_client-clause-delegations c =
    let ds = c.args.self.now.delegations in
    let none : c.has_client.result ≡ false = search rules in
    sym (drop_none (is_lent_to c.args.client) ds (all_fail (is_lent_to c.args.client) ds (sym c.has_client.ensures ∙ none)))

pub invariant_of-self : goal.invariant_of-self
invariant_of-self c =
    let s = c.self.inside in
    let t = c.self.invariant in
    let client = c.args.client in
    let ds = s.lent.items in
    let gone : c.retain.new.self.items ≡ without_lent (is_lent_to client) ds = filter_same _ (λ d. not (is_lent_to client d)) _ (λ x b f' k. search rules) _ _ c.retain.ensures.filtered in
    record {
      order = subst StandInOrder (sym gone) (filter_in_order (λ d. not (is_lent_to client d)) ds t.order);
      tally = subst (IsTally c.remove_client.new.self) (marks_left client ds ∙ ap (map mark_lent) (sym gone)) (c.remove_client.ensures.tally (map mark_lent ds) t.tally);
      recalls = subst (AreNotBefore c.first_recall_in-self-inside.result) c.as_slice.ensures.value c.first_recall_in-self-inside.ensures;
      in_list = omega (arith, t.in_list, c.retain.ensures.bound, c.retain.ensures.capacity);
      in_tally = omega (arith, t.in_tally, c.remove_client.ensures.room);
    }

pub returns-clause-delegations : goal.returns-clause-delegations
returns-clause-delegations c =
    filter_same _ (λ d. not (is_lent_to c.args.client d)) _ (λ x b f' k. search rules) _ _ c.retain.ensures.filtered
    ∙ ap (λ (t : RoomyDelegations). without_lent (is_lent_to c.args.client) t.delegations) c.self.view_is
