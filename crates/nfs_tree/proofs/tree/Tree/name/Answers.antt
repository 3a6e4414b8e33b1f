use Rattle.std.proofs.Common.{ap, ◌∙◌}
use Rattle.nfs_tree.specs.Tree.{node_at}
use Rattle.nfs_tree.proofs.Nodes.{named_short}
use Rattle.nfs_tree.proofs.tree.Tree.name.Goals as goal

pub returns-in-Some-clause-short : goal.returns-in-Some-clause-short
returns-in-Some-clause-short c =
    rw c.as_slice-in-Some.ensures
    (named_short c.self.inside.nodes.items c.args.node c.in-Some.node.now c.self.invariant
    (c.in-Some.ensures ∙ ap (λ ns. node_at ns c.args.node) c.as_slice.ensures.value))
