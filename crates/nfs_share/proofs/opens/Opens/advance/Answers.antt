use Rattle.std.proofs.Common.{refl, ap, ◌∙◌, subst, sym, arith}
use Rattle.std.specs.Prelude.{if◌then◌else◌}
use Rattle.nfs_share.specs.AllOpens.{list_or_none, opens_in, with_opens}
use Rattle.nfs_share.specs.OpenNodes.{lent_number, open_number}
use Rattle.nfs_share.specs.Opens.{FileOpens, is_numbered, with_each, with_next_seqid}
use Rattle.nfs_share.proofs.Indexed.{lent_view, lent_within, opens_view, opens_within, same_numbers}
use Rattle.nfs_share.proofs.OneFile.{changed_at, same_at}
use Rattle.nfs_nodes.specs.Numbers.{AreFound}
use Rattle.nfs_nodes.proofs.Callers.{found_changed}
use Rattle.nfs_share.proofs.opens.Opens.advance.Goals as goal

pub returns-then-node-len-clause-opens : goal.returns-then-node-len-clause-opens
returns-then-node-len-clause-opens c =
    opens_within _ _ _ ∙ changed_at (λ f. f.opens) (with_each (is_numbered c.args.number) (with_next_seqid)) c.self.inside.files.items c.args.node c.index_mut.result.now c.advance.new.self (omega (arith, c.if-node-len.true, c.len.ensures)) c.index_mut.ensures.value (ap (λ (f : FileOpens). f.opens) c.advance.ensures) ∙ ap (with_opens c.args.node (with_each (is_numbered c.args.number) (with_next_seqid))) (opens_view c.self.inside.nodes.room c.self.inside.lent.room c.self.inside.files.items c.args.self.now c.self.view_is)

pub returns-then-node-len-clause-delegations : goal.returns-then-node-len-clause-delegations
returns-then-node-len-clause-delegations c =
    lent_within _ _ _ ∙ same_at (λ f. f.delegations) c.self.inside.files.items c.args.node c.index_mut.result.now c.advance.new.self (omega (arith, c.if-node-len.true, c.len.ensures)) c.index_mut.ensures.value (ap (λ (f : FileOpens). f.delegations) c.advance.ensures) ∙ (lent_view c.self.inside.nodes.room c.self.inside.lent.room c.self.inside.files.items c.args.self.now c.self.view_is)

pub invariant_of-self : goal.invariant_of-self
invariant_of-self c = (
  subst (AreFound open_number c.self.inside.nodes c.self.inside.count) (sym (changed_at (λ f. f.opens) (with_each (is_numbered c.args.number) (with_next_seqid)) c.self.inside.files.items c.args.node c.index_mut.result.now c.advance.new.self (omega (arith, c.if-node-len.true, c.len.ensures)) c.index_mut.ensures.value (ap (λ (f : FileOpens). f.opens) c.advance.ensures)))
      (found_changed open_number list_or_none (λ xs. refl) c.args.node c.self.inside.count (opens_in c.self.inside.files.items) c.self.inside.nodes (λ o. if is_numbered c.args.number o then with_next_seqid o else o) (same_numbers open_number (is_numbered c.args.number) (with_next_seqid) (λ o. refl)) c.self.invariant.0),
  subst (AreFound lent_number c.self.inside.lent c.self.inside.lent_count) (sym (same_at (λ f. f.delegations) c.self.inside.files.items c.args.node c.index_mut.result.now c.advance.new.self (omega (arith, c.if-node-len.true, c.len.ensures)) c.index_mut.ensures.value (ap (λ (f : FileOpens). f.delegations) c.advance.ensures))) c.self.invariant.1,
)
