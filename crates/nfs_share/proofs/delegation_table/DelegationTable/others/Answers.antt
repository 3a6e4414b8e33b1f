use Rattle.std.proofs.Common.{◌&&◌, ◌∙◌, ap, map, not, sym, true}
use Rattle.nfs_share.specs.Delegations.{is_of_user}
use Rattle.nfs_share.specs.KeptDelegations.{RoomyDelegations, is_writing, mark_lent}
use Rattle.nfs_share.specs.ShareCounts.{how_many}
use Rattle.nfs_share.specs.Tally.{is_own}
use Rattle.nfs_share.specs.declared.count.Count.{Count}
use Rattle.nfs_share.specs.declared.delegation.FileUse.TheVariants as uses
use Rattle.nfs_share.proofs.LentTables.{lent_marks}
use Rattle.nfs_share.proofs.delegation_table.DelegationTable.others.Goals as goal

pub returns-in-Open-clause-all : goal.returns-in-Open-clause-all
returns-in-Open-clause-all c =
    let ds = c.self.inside.lent.items in
    ap (λ (n : Count). n.all) (c.others.ensures (map mark_lent ds) c.self.invariant.tally)
    ∙ lent_marks (λ m. not (is_own c.in-Open.client m)) ds
    ∙ ap (λ (t : RoomyDelegations). how_many (λ d. not (is_of_user (uses.Open c.in-Open.client c.in-Open.field-1) d)) t.delegations) c.self.view_is
    ∙ ap (λ file_use. how_many (λ d. not (is_of_user file_use d)) c.args.self.now.delegations) (sym c.in-Open.is)

pub returns-in-Open-clause-writing : goal.returns-in-Open-clause-writing
returns-in-Open-clause-writing c =
    let ds = c.self.inside.lent.items in
    ap (λ (n : Count). n.marked) (c.others.ensures (map mark_lent ds) c.self.invariant.tally)
    ∙ lent_marks (λ m. not (is_own c.in-Open.client m) && m.marked) ds
    ∙ ap (λ (t : RoomyDelegations). how_many (λ d. not (is_of_user (uses.Open c.in-Open.client c.in-Open.field-1) d) && is_writing d.kind) t.delegations) c.self.view_is
    ∙ ap (λ file_use. how_many (λ d. not (is_of_user file_use d) && is_writing d.kind) c.args.self.now.delegations) (sym c.in-Open.is)

pub returns-in-Delegation-clause-all : goal.returns-in-Delegation-clause-all
returns-in-Delegation-clause-all c =
    let ds = c.self.inside.lent.items in
    ap (λ (n : Count). n.all) (c.others-in-Delegation.ensures (map mark_lent ds) c.self.invariant.tally)
    ∙ lent_marks (λ m. not (is_own c.in-Delegation.client m)) ds
    ∙ ap (λ (t : RoomyDelegations). how_many (λ d. not (is_of_user (uses.Delegation c.in-Delegation.client c.in-Delegation.field-1) d)) t.delegations) c.self.view_is
    ∙ ap (λ file_use. how_many (λ d. not (is_of_user file_use d)) c.args.self.now.delegations) (sym c.in-Delegation.is)

pub returns-in-Delegation-clause-writing : goal.returns-in-Delegation-clause-writing
returns-in-Delegation-clause-writing c =
    let ds = c.self.inside.lent.items in
    ap (λ (n : Count). n.marked) (c.others-in-Delegation.ensures (map mark_lent ds) c.self.invariant.tally)
    ∙ lent_marks (λ m. not (is_own c.in-Delegation.client m) && m.marked) ds
    ∙ ap (λ (t : RoomyDelegations). how_many (λ d. not (is_of_user (uses.Delegation c.in-Delegation.client c.in-Delegation.field-1) d) && is_writing d.kind) t.delegations) c.self.view_is
    ∙ ap (λ file_use. how_many (λ d. not (is_of_user file_use d) && is_writing d.kind) c.args.self.now.delegations) (sym c.in-Delegation.is)

pub returns-in-Special-clause-all : goal.returns-in-Special-clause-all
returns-in-Special-clause-all c =
    let ds = c.self.inside.lent.items in
    ap (λ (n : Count). n.all) (c.all.ensures (map mark_lent ds) c.self.invariant.tally)
    ∙ lent_marks (λ m. true) ds
    ∙ ap (λ (t : RoomyDelegations). how_many (λ d. not (is_of_user (uses.Special c.in-Special.field-0) d)) t.delegations) c.self.view_is
    ∙ ap (λ file_use. how_many (λ d. not (is_of_user file_use d)) c.args.self.now.delegations) (sym c.in-Special.is)

pub returns-in-Special-clause-writing : goal.returns-in-Special-clause-writing
returns-in-Special-clause-writing c =
    let ds = c.self.inside.lent.items in
    ap (λ (n : Count). n.marked) (c.all.ensures (map mark_lent ds) c.self.invariant.tally)
    ∙ lent_marks (λ m. true && m.marked) ds
    ∙ ap (λ (t : RoomyDelegations). how_many (λ d. not (is_of_user (uses.Special c.in-Special.field-0) d) && is_writing d.kind) t.delegations) c.self.view_is
    ∙ ap (λ file_use. how_many (λ d. not (is_of_user file_use d) && is_writing d.kind) c.args.self.now.delegations) (sym c.in-Special.is)
