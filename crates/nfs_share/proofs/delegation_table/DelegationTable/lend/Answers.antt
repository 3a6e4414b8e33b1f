use Rattle.std.proofs.Common.{◌∷◌, arith, map, subst, sym}
use Rattle.nfs_share.specs.Delegations.{IsAboveLent, StandInOrder, first_delegation}
use Rattle.nfs_share.specs.KeptDelegations.{AreNotBefore, IsNotBefore, RoomyDelegations, mark_lent}
use Rattle.nfs_share.specs.Tally.{IsTally, mark_of}
use Rattle.nfs_share.proofs.DelegationOrder.{push_in_order}
use Rattle.nfs_share.proofs.EachElement.{all_push}
use Rattle.nfs_share.proofs.LentTables.{few_lent, lent_push, lent_tally}
use Rattle.nfs_share.proofs.delegation_table.DelegationTable.lend.Goals as goal

pub invariant_of-self : goal.invariant_of-self
invariant_of-self c =
    let s = c.self.inside in
    let t = c.self.invariant in
    let ds = s.lent.items in
    let d = first_delegation c.args.client c.args.kind c.args.number in
    let items = c.push_reserved.ensures.items in
    let above = subst (λ (t : RoomyDelegations). IsAboveLent c.args.number t.delegations) (sym c.self.view_is) c.requires.newest in
    let tally = c.add.ensures.tally (map mark_lent ds) t.tally (few_lent ds c.push_reserved.new.self.items d c.len-count.result items (omega (arith, c.len-count.ensures)) c.len-count.type_inv) in
    record {
      order = subst StandInOrder (sym items) (push_in_order ds d above t.order);
      tally = subst (λ es. IsTally c.add.new.self (map mark_lent es)) (sym items)
          (lent_tally c.add.new.self (d ∷ ds) _ (lent_push ds d) (subst (λ b. IsTally c.add.new.self (mark_of c.args.client b ∷ map mark_lent ds)) c.is_writing.ensures tally));
      recalls = subst (AreNotBefore s.first_recall) (sym items) (all_push (λ e. IsNotBefore e.recalled s.first_recall) ds d t.recalls tt);
      in_list = omega (arith, t.in_list, c.push_reserved.ensures.len, c.push_reserved.ensures.capacity);
      in_tally = omega (arith, t.in_tally, c.add.ensures.room);
    }
