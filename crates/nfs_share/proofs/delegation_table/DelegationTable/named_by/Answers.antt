use Rattle.std.proofs.Common.{◌∙◌, None, Some, ap, cond, subst, sym}
use Rattle.std.specs.Option.{option_copied}
use Rattle.std.proofs.lemmas.Map.Entries.{option_filter}
use Rattle.nfs_share.specs.Delegations.{is_delegation_numbered, is_lent_to}
use Rattle.nfs_share.specs.KeptDelegations.{RoomyDelegations}
use Rattle.nfs_share.proofs.AtMostOne.{AtMostOne, both_found}
use Rattle.nfs_share.proofs.LentTables.{one_lent}
use Rattle.nfs_share.proofs.delegation_table.DelegationTable.named_by.Goals as goal

pub returns-in_err-lent : goal.returns-in_err-lent
returns-in_err-lent c =
    let id = c.args.stateid in
    let ds = c.args.self.now.delegations in
    let few : AtMostOne (is_delegation_numbered id.number) ds = subst (λ (t : RoomyDelegations). AtMostOne (is_delegation_numbered id.number) t.delegations) c.self.view_is (one_lent id.number c.self.inside.lent.items c.self.invariant.order) in
    ap option_copied c.from_residual.ensures ∙ sym (both_found (is_lent_to id.client) (is_delegation_numbered id.number) ds few ∙ ap (option_filter (is_lent_to id.client)) (sym c.with_number.ensures ∙ ap option_copied c.in_err-lent.was))

pub returns-then-is_of_client : goal.returns-then-is_of_client
returns-then-is_of_client c =
    let id = c.args.stateid in
    let ds = c.args.self.now.delegations in
    let few : AtMostOne (is_delegation_numbered id.number) ds = subst (λ (t : RoomyDelegations). AtMostOne (is_delegation_numbered id.number) t.delegations) c.self.view_is (one_lent id.number c.self.inside.lent.items c.self.invariant.order) in
    sym (both_found (is_lent_to id.client) (is_delegation_numbered id.number) ds few ∙ ap (option_filter (is_lent_to id.client)) (sym c.with_number.ensures ∙ ap option_copied c.in_ok-lent.was)
    ∙ ap (λ b. cond b (Some c.in_ok-lent.lent.now) None) (sym c.is_of_client.ensures ∙ c.if-is_of_client.true))

pub returns-else-is_of_client : goal.returns-else-is_of_client
returns-else-is_of_client c =
    let id = c.args.stateid in
    let ds = c.args.self.now.delegations in
    let few : AtMostOne (is_delegation_numbered id.number) ds = subst (λ (t : RoomyDelegations). AtMostOne (is_delegation_numbered id.number) t.delegations) c.self.view_is (one_lent id.number c.self.inside.lent.items c.self.invariant.order) in
    sym (both_found (is_lent_to id.client) (is_delegation_numbered id.number) ds few ∙ ap (option_filter (is_lent_to id.client)) (sym c.with_number.ensures ∙ ap option_copied c.in_ok-lent.was)
    ∙ ap (λ b. cond b (Some c.in_ok-lent.lent.now) None) (sym c.is_of_client.ensures ∙ c.if-is_of_client.false))
