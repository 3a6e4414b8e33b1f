use Rattle.std.proofs.Common.{◌≡◌, ◌∙◌, ℕ, List, Option, ap, find, subst, sym}
use Rattle.std.specs.Option.{option_copied}
use Rattle.std.specs.Prelude.{nat_le}
use Rattle.nfs_share.specs.Delegations.{StandInOrder}
use Rattle.nfs_share.specs.KeptDelegations.{RoomyDelegations}
use Rattle.nfs_share.specs.declared.delegation.Delegation.{Delegation}
use Rattle.nfs_share.proofs.DelegationOrder.{none_found, one_found, other_found}
use Rattle.nfs_share.proofs.delegation_table.DelegationTable.with_number.Goals as goal

-- the first one from a number on
abbrev first_of : ℕ → List Delegation → Option Delegation
first_of number ds = find (λ d. nat_le number d.number) ds

pub returns-in_err-lent : goal.returns-in_err-lent
returns-in_err-lent c =
    let ds = c.args.self.now.delegations in
    let order : StandInOrder ds = subst (λ (f : RoomyDelegations). StandInOrder f.delegations) c.self.view_is c.self.invariant.order in
    let seen = c.as_slice.ensures.value ∙ ap (λ (f : RoomyDelegations). f.delegations) c.self.view_is in
    let first : option_copied c.first_from.result ≡ first_of c.args.number ds = c.first_from.ensures ∙ ap (first_of c.args.number) seen in
    ap option_copied c.from_residual.ensures ∙ sym (none_found c.args.number ds order (sym first ∙ ap option_copied c.in_err-lent.was))

pub returns-then-lent-number : goal.returns-then-lent-number
returns-then-lent-number c =
    let ds = c.args.self.now.delegations in
    let order : StandInOrder ds = subst (λ (f : RoomyDelegations). StandInOrder f.delegations) c.self.view_is c.self.invariant.order in
    let seen = c.as_slice.ensures.value ∙ ap (λ (f : RoomyDelegations). f.delegations) c.self.view_is in
    let first : option_copied c.first_from.result ≡ first_of c.args.number ds = c.first_from.ensures ∙ ap (first_of c.args.number) seen in
    sym (one_found c.args.number ds c.in_ok-lent.lent.now order (sym first ∙ ap option_copied c.in_ok-lent.was) c.if-lent-number.true)

pub returns-else-lent-number : goal.returns-else-lent-number
returns-else-lent-number c =
    let ds = c.args.self.now.delegations in
    let order : StandInOrder ds = subst (λ (f : RoomyDelegations). StandInOrder f.delegations) c.self.view_is c.self.invariant.order in
    let seen = c.as_slice.ensures.value ∙ ap (λ (f : RoomyDelegations). f.delegations) c.self.view_is in
    let first : option_copied c.first_from.result ≡ first_of c.args.number ds = c.first_from.ensures ∙ ap (first_of c.args.number) seen in
    sym (other_found c.args.number ds c.in_ok-lent.lent.now order (sym first ∙ ap option_copied c.in_ok-lent.was) c.if-lent-number.false)
