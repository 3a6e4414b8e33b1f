use Rattle.std.proofs.Common.{refl, slice_set, ap, ◌∙◌, subst, sym, arith}
use Rattle.std.specs.Prelude.{if◌then◌else◌}
use Rattle.nfs_share.specs.AllOpens.{HasLendingRoomAt, HasRoomAt, delegations_in, list_or_none, with_delegations}
use Rattle.nfs_share.specs.Delegations.{conflicts, with_recall, with_recalls}
use Rattle.nfs_share.specs.OpenNodes.{lent_number, open_number}
use Rattle.nfs_share.specs.Opens.{FileOpens}
use Rattle.nfs_share.proofs.Indexed.{as_long, keeps_within, lent_view, lent_within, opens_view, opens_within, recalled_same, same_numbers}
use Rattle.nfs_share.proofs.OneFile.{changed_at, rooms_grow, same_at}
use Rattle.nfs_nodes.specs.Numbers.{AreFound}
use Rattle.nfs_nodes.proofs.Callers.{found_changed}
use Rattle.nfs_share.proofs.opens.Opens.recall.Goals as goal

pub returns-then-node-len-clause-delegations : goal.returns-then-node-len-clause-delegations
returns-then-node-len-clause-delegations c =
    lent_within _ _ _ ∙ changed_at (λ f. f.delegations) (with_recalls c.args.file_use c.args.moment) c.self.inside.files.items c.args.node c.index_mut.result.now c.recall.new.self (omega (arith, c.if-node-len.true, c.len.ensures)) c.index_mut.ensures.value (ap (λ (f : FileOpens). f.delegations) c.recall.ensures) ∙ ap (with_delegations c.args.node (with_recalls c.args.file_use c.args.moment)) (lent_view c.self.inside.nodes.room c.self.inside.lent.room c.self.inside.files.items c.args.self.now c.self.view_is)

pub returns-then-node-len-clause-opens : goal.returns-then-node-len-clause-opens
returns-then-node-len-clause-opens c =
    opens_within _ _ _ ∙ same_at (λ f. f.opens) c.self.inside.files.items c.args.node c.index_mut.result.now c.recall.new.self (omega (arith, c.if-node-len.true, c.len.ensures)) c.index_mut.ensures.value (ap (λ (f : FileOpens). f.opens) c.recall.ensures) ∙ (opens_view c.self.inside.nodes.room c.self.inside.lent.room c.self.inside.files.items c.args.self.now c.self.view_is)

pub returns-then-node-len-clause-room : goal.returns-then-node-len-clause-room
returns-then-node-len-clause-room c at has =
    keeps_within (λ f. f.lending_room) c.self.inside.nodes.room c.self.inside.lent.room c.self.inside.lent.room c.self.inside.nodes.room c.self.inside.lent.room c.self.inside.lent.room (λ f. refl) (λ f. refl) (omega arith) c.self.inside.files.items (slice_set c.self.inside.files.items c.args.node c.recall.new.self) at (as_long c.self.inside.files.items c.args.node c.recall.new.self)
    (rooms_grow (λ f. f.lending_room) c.self.inside.files.items c.args.node c.index_mut.result.now c.recall.new.self (omega (arith, c.if-node-len.true, c.len.ensures)) c.index_mut.ensures.value (omega (arith, ap (λ (f : FileOpens). f.lending_room) c.recall.ensures)) at)
    (subst (HasLendingRoomAt at) (sym c.self.view_is) has)

pub returns-then-node-len-clause-opening : goal.returns-then-node-len-clause-opening
returns-then-node-len-clause-opening c at has =
    keeps_within (λ f. f.room) c.self.inside.nodes.room c.self.inside.lent.room c.self.inside.nodes.room c.self.inside.nodes.room c.self.inside.lent.room c.self.inside.nodes.room (λ f. refl) (λ f. refl) (omega arith) c.self.inside.files.items (slice_set c.self.inside.files.items c.args.node c.recall.new.self) at (as_long c.self.inside.files.items c.args.node c.recall.new.self)
    (rooms_grow (λ f. f.room) c.self.inside.files.items c.args.node c.index_mut.result.now c.recall.new.self (omega (arith, c.if-node-len.true, c.len.ensures)) c.index_mut.ensures.value (omega (arith, ap (λ (f : FileOpens). f.room) c.recall.ensures)) at)
    (subst (HasRoomAt at) (sym c.self.view_is) has)

pub invariant_of-self : goal.invariant_of-self
invariant_of-self c = (
  subst (AreFound open_number c.self.inside.nodes c.self.inside.count) (sym (same_at (λ f. f.opens) c.self.inside.files.items c.args.node c.index_mut.result.now c.recall.new.self (omega (arith, c.if-node-len.true, c.len.ensures)) c.index_mut.ensures.value (ap (λ (f : FileOpens). f.opens) c.recall.ensures))) c.self.invariant.0,
  subst (AreFound lent_number c.self.inside.lent c.self.inside.lent_count) (sym (changed_at (λ f. f.delegations) (with_recalls c.args.file_use c.args.moment) c.self.inside.files.items c.args.node c.index_mut.result.now c.recall.new.self (omega (arith, c.if-node-len.true, c.len.ensures)) c.index_mut.ensures.value (ap (λ (f : FileOpens). f.delegations) c.recall.ensures)))
      (found_changed lent_number list_or_none (λ xs. refl) c.args.node c.self.inside.lent_count (delegations_in c.self.inside.files.items) c.self.inside.lent (λ d. if conflicts c.args.file_use d then with_recall c.args.moment d else d) (same_numbers lent_number (conflicts c.args.file_use) (with_recall c.args.moment) (recalled_same c.args.moment)) c.self.invariant.1),
)
