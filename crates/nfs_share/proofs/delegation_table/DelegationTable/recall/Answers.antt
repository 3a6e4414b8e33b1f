use Rattle.std.proofs.Common.{◌≡◌, ◌∙◌, ap, arith, false, length, map, rules, subst, sym}
use Rattle.nfs_rows.proofs.Each.{change_none}
use Rattle.nfs_share.specs.Delegations.{StandInOrder, conflicts, with_recall}
use Rattle.nfs_share.specs.KeptDelegations.{AreNotBefore, mark_lent}
use Rattle.nfs_share.specs.Tally.{IsTally}
use Rattle.nfs_share.proofs.DelegationOrder.{recalls_in_order}
use Rattle.nfs_share.proofs.EachElement.{all_fail}
use Rattle.nfs_share.proofs.LentTables.{marks_recalled, recalls_length}
use Rattle.nfs_share.proofs.delegation_table.DelegationTable.recall.Goals as goal

pub returns-then-not-conflicts : goal.returns-then-not-conflicts
returns-then-not-conflicts c =
    let ds = c.args.self.now.delegations in
    let none : c.conflicts.result ≡ false = search rules in
    ap (λ ds. record { delegations = ds; room = c.args.self.now.room })
    (sym (change_none (conflicts c.args.file_use) (with_recall c.args.moment) ds (all_fail (conflicts c.args.file_use) ds (sym c.conflicts.ensures ∙ none))))

pub invariant_of-self : goal.invariant_of-self
invariant_of-self c =
    let t = c.self.invariant in
    let ds = c.self.inside.lent.items in
    let items = c.recall_each.ensures.items in
    record {
      order = subst StandInOrder (sym items) (recalls_in_order c.args.file_use c.args.moment ds t.order);
      tally = subst (IsTally c.self.inside.holders) (sym (ap (map mark_lent) items ∙ marks_recalled c.args.file_use c.args.moment ds)) t.tally;
      recalls = subst (AreNotBefore c.first_recall_in-self-inside.result) c.as_slice.ensures.value c.first_recall_in-self-inside.ensures;
      in_list = omega (arith, t.in_list, c.recall_each.ensures.capacity, ap length items, recalls_length c.args.file_use c.args.moment ds);
      in_tally = t.in_tally;
    }
