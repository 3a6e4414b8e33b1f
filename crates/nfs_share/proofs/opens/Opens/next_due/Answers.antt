use Rattle.std.proofs.Common.{◌≡◌, ◌+◌, ◌<◌, ◌∙◌, List, arith, ap, length, option_map, subst, sym, take, take_all}
use Rattle.nfs_share.specs.AllOpens.{delegations_in, lesser_at}
use Rattle.nfs_share.specs.OpenFound.{delegation_seen}
use Rattle.nfs_share.specs.Opens.{FileOpens}
use Rattle.nfs_share.proofs.AllOpens.{as_many, one_there}
use Rattle.nfs_share.specs.declared.delegation.Delegation.{Delegation}
use Rattle.nfs_share.proofs.Indexed.{lent_view, list_at_there}
use Rattle.nfs_share.proofs.NextDue.{IsLeast, file_at, next_of_all}
use Rattle.nfs_share.proofs.NextNumbered.{next_numbered}
use Rattle.nfs_share.proofs.opens.Opens.next_due.Goals as goal

pub loop-node-preserved : goal.loop-node-preserved
loop-node-preserved c = record {
  least =
      let files = c.self.inside.files.items in
      let node = c.loop-node.node in
      let file = c.index.result.now in
      let below : node < length files = omega (arith, c.loop-node-test.true, c.len-node-end.ensures) in
      let next = option_map delegation_seen c.loop-node.next in
      let new = option_map delegation_seen c.lesser-next.result in
      subst (λ (all : List (List Delegation)). IsLeast c.args.lease c.args.now all (take node all) next
      → IsLeast c.args.lease c.args.now all (take (node + 1) all) new) (lent_view c.self.inside.nodes.room c.self.inside.lent.room c.self.inside.files.items c.args.self.now c.self.view_is)
      (file_at c.args.lease c.args.now (delegations_in files) node file.delegations next new c.next_due-due.result
      (omega (arith, below, as_many (λ f. f.delegations) files))
      (ap (λ (f : FileOpens). f.delegations) c.index.ensures ∙ one_there (λ f. f.delegations) files node file file.delegations below)
      (list_at_there (λ f. f.delegations) files node file below c.index.ensures)
      c.next_due-due.ensures
      (c.lesser-next.ensures ∙ ap (lesser_at next) c.lent_at.ensures))
      c.loop-node.invariant.least;
}

pub returns-clause-next : goal.returns-clause-next
returns-clause-next c =
    let all = delegations_in c.args.self.now in
    let end : length all ≡ length c.self.inside.files.items =
    ap (λ (all : List (List Delegation)). length all) (sym (lent_view c.self.inside.nodes.room c.self.inside.lent.room c.self.inside.files.items c.args.self.now c.self.view_is)) ∙ as_many (λ f. f.delegations) c.self.inside.files.items in
    next_of_all c.args.lease c.args.now all _ (option_map delegation_seen c.loop-node.next)
    (take_all c.loop-node.node all (omega (arith, end, c.loop-node-test.false, c.len-node-end.ensures))) c.loop-node.invariant.least

pub returns-clause-found : goal.returns-clause-found
returns-clause-found c =
    next_numbered c.self.inside.lent c.args.lease c.args.now (delegations_in c.self.inside.files.items) (delegations_in c.args.self.now) c.loop-node.next
    (lent_view c.self.inside.nodes.room c.self.inside.lent.room c.self.inside.files.items c.args.self.now c.self.view_is) c.self.invariant.1.stand (returns-clause-next c)
