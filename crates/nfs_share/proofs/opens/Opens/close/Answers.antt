use Rattle.std.proofs.Common.{ap, ◌∙◌, subst, sym, arith}
use Rattle.nfs_share.specs.AllOpens.{with_opens}
use Rattle.nfs_share.specs.OpenNodes.{lent_number, open_number}
use Rattle.nfs_share.specs.Opens.{is_numbered, without}
use Rattle.nfs_share.proofs.Indexed.{gone_at, lent_view, lent_within, open_differs, opens_view, opens_within}
use Rattle.nfs_share.proofs.OneFile.{changed_at, same_at}
use Rattle.nfs_nodes.specs.Numbers.{AreFound}
use Rattle.nfs_share.proofs.opens.Opens.close.Goals as goal

pub overflow_sub-self : goal.overflow_sub-self
overflow_sub-self c =
    (gone_at (λ f. f.opens) open_number is_numbered open_differs c.args.number c.self.inside.files.items c.args.node c.index_mut.result.now c.close_in.new.file c.self.inside.count c.close_in.result c.self.inside.nodes c.self.inside.nodes (omega (arith, c.if-at-len.true, c.len.ensures)) c.index_mut.ensures.value c.close_in.ensures.opens c.close_in.ensures.gone (λ n m known differs. known) c.self.invariant.0).0

pub invariant_of-self : goal.invariant_of-self
invariant_of-self c = (
  (gone_at (λ f. f.opens) open_number is_numbered open_differs c.args.number c.self.inside.files.items c.args.node c.index_mut.result.now c.close_in.new.file c.self.inside.count c.close_in.result c.self.inside.nodes c.remove.new.self (omega (arith, c.if-at-len.true, c.len.ensures)) c.index_mut.ensures.value c.close_in.ensures.opens c.close_in.ensures.gone c.remove.ensures.nodes c.self.invariant.0).1,
  subst (AreFound lent_number c.self.inside.lent c.self.inside.lent_count) (sym (same_at (λ f. f.delegations) c.self.inside.files.items c.args.node c.index_mut.result.now c.close_in.new.file (omega (arith, c.if-at-len.true, c.len.ensures)) c.index_mut.ensures.value c.close_in.ensures.delegations)) c.self.invariant.1,
)

pub returns-then-at-len-clause-opens : goal.returns-then-at-len-clause-opens
returns-then-at-len-clause-opens c =
    opens_within _ _ _ ∙ changed_at (λ f. f.opens) (without (is_numbered c.args.number)) c.self.inside.files.items c.args.node c.index_mut.result.now c.close_in.new.file (omega (arith, c.if-at-len.true, c.len.ensures)) c.index_mut.ensures.value c.close_in.ensures.opens ∙ ap (with_opens c.args.node (without (is_numbered c.args.number))) (opens_view c.self.inside.nodes.room c.self.inside.lent.room c.self.inside.files.items c.args.self.now c.self.view_is)

pub returns-then-at-len-clause-delegations : goal.returns-then-at-len-clause-delegations
returns-then-at-len-clause-delegations c =
    lent_within _ _ _ ∙ same_at (λ f. f.delegations) c.self.inside.files.items c.args.node c.index_mut.result.now c.close_in.new.file (omega (arith, c.if-at-len.true, c.len.ensures)) c.index_mut.ensures.value c.close_in.ensures.delegations ∙ (lent_view c.self.inside.nodes.room c.self.inside.lent.room c.self.inside.files.items c.args.self.now c.self.view_is)
