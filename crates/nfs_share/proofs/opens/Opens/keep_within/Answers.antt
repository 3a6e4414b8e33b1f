use Rattle.std.proofs.Common.{refl, ap, ◌∙◌, subst, sym, arith}
use Rattle.std.specs.Prelude.{if◌then◌else◌}
use Rattle.nfs_share.specs.AllOpens.{list_or_none, opens_in, with_opens}
use Rattle.nfs_share.specs.OpenNodes.{lent_number, open_number}
use Rattle.nfs_share.specs.Opens.{FileOpens, after_downgrade, is_numbered, with_each}
use Rattle.nfs_share.proofs.Indexed.{lent_view, lent_within, opens_view, opens_within, same_numbers}
use Rattle.nfs_share.proofs.OneFile.{changed_at, same_at}
use Rattle.nfs_nodes.specs.Numbers.{AreFound}
use Rattle.nfs_nodes.proofs.Callers.{found_changed}
use Rattle.nfs_share.proofs.opens.Opens.keep_within.Goals as goal

pub returns-then-node-len-clause-opens : goal.returns-then-node-len-clause-opens
returns-then-node-len-clause-opens c =
    opens_within _ _ _ ∙ changed_at (λ f. f.opens) (with_each (is_numbered c.args.number) (after_downgrade c.args.share)) c.self.inside.files.items c.args.node c.index_mut.result.now c.keep_within.new.self (omega (arith, c.if-node-len.true, c.len.ensures)) c.index_mut.ensures.value (ap (λ (f : FileOpens). f.opens) c.keep_within.ensures) ∙ ap (with_opens c.args.node (with_each (is_numbered c.args.number) (after_downgrade c.args.share))) (opens_view c.self.inside.nodes.room c.self.inside.lent.room c.self.inside.files.items c.args.self.now c.self.view_is)

pub returns-then-node-len-clause-delegations : goal.returns-then-node-len-clause-delegations
returns-then-node-len-clause-delegations c =
    lent_within _ _ _ ∙ same_at (λ f. f.delegations) c.self.inside.files.items c.args.node c.index_mut.result.now c.keep_within.new.self (omega (arith, c.if-node-len.true, c.len.ensures)) c.index_mut.ensures.value (ap (λ (f : FileOpens). f.delegations) c.keep_within.ensures) ∙ (lent_view c.self.inside.nodes.room c.self.inside.lent.room c.self.inside.files.items c.args.self.now c.self.view_is)

pub invariant_of-self : goal.invariant_of-self
invariant_of-self c = (
  subst (AreFound open_number c.self.inside.nodes c.self.inside.count) (sym (changed_at (λ f. f.opens) (with_each (is_numbered c.args.number) (after_downgrade c.args.share)) c.self.inside.files.items c.args.node c.index_mut.result.now c.keep_within.new.self (omega (arith, c.if-node-len.true, c.len.ensures)) c.index_mut.ensures.value (ap (λ (f : FileOpens). f.opens) c.keep_within.ensures)))
      (found_changed open_number list_or_none (λ xs. refl) c.args.node c.self.inside.count (opens_in c.self.inside.files.items) c.self.inside.nodes (λ o. if is_numbered c.args.number o then after_downgrade c.args.share o else o) (same_numbers open_number (is_numbered c.args.number) (after_downgrade c.args.share) (λ o. refl)) c.self.invariant.0),
  subst (AreFound lent_number c.self.inside.lent c.self.inside.lent_count) (sym (same_at (λ f. f.delegations) c.self.inside.files.items c.args.node c.index_mut.result.now c.keep_within.new.self (omega (arith, c.if-node-len.true, c.len.ensures)) c.index_mut.ensures.value (ap (λ (f : FileOpens). f.delegations) c.keep_within.ensures))) c.self.invariant.1,
)
