use Rattle.std.proofs.Common.{◌≡◌, ◌∙◌, ap, find, subst, sym}
use Rattle.std.specs.Prelude.{IsFalse}
use Rattle.std.specs.List.{AllByRecursion}
use Rattle.nfs_share.specs.Delegations.{IsNextDueOf, is_due}
use Rattle.nfs_share.specs.KeptDelegations.{RoomyDelegations}
use Rattle.nfs_share.proofs.DelegationOrder.{first_is_next}
use Rattle.nfs_share.proofs.FirstRecalls.{none_due}
use Rattle.nfs_share.proofs.delegation_table.DelegationTable.next_due.Goals as goal

pub returns-then-not-is_lease_before : goal.returns-then-not-is_lease_before
returns-then-not-is_lease_before c =
    subst (λ (t : RoomyDelegations). AllByRecursion (λ d. IsFalse (is_due c.args.lease c.args.now d)) t.delegations) c.self.view_is
    (none_due c.args.lease c.args.now c.self.inside.first_recall c.self.inside.lent.items (sym c.is_lease_before.ensures ∙ c.if-not-is_lease_before.true) c.self.invariant.recalls)

pub returns : goal.returns
returns c =
    let ds = c.self.inside.lent.items in
    let first : c.first_due.result ≡ find (is_due c.args.lease c.args.now) ds = c.first_due.ensures ∙ ap (find (is_due c.args.lease c.args.now)) c.as_slice.ensures.value in
    subst (λ (t : RoomyDelegations). IsNextDueOf c.args.lease c.args.now t.delegations c.first_due.result) c.self.view_is
    (subst (IsNextDueOf c.args.lease c.args.now ds) (sym first)
    (first_is_next c.args.lease c.args.now ds c.self.invariant.order))
