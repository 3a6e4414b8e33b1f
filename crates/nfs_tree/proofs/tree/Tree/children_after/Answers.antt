use Rattle.std.proofs.Common.{ap, ◌∙◌}
use Rattle.nfs_tree.specs.Children.{listed_from}
use Rattle.nfs_tree.proofs.Cookies.{listed_are_after}
use Rattle.nfs_tree.proofs.Nodes.{few_nodes}
use Rattle.nfs_tree.proofs.tree.Tree.children_after.Goals as goal

pub children_among-requires : goal.children_among-requires
children_among-requires c = rw c.as_slice.ensures.value (few_nodes c.self.inside.nodes.items c.self.invariant)

pub returns : goal.returns
returns c =
    rw (← c.self.view_is)
    (c.in_ok-children.ensures
    ∙ ap (λ ns. listed_from 1 ns c.args.directory c.args.cookie) c.as_slice.ensures.value
    ∙ listed_are_after c.self.inside.nodes.items c.args.directory c.args.cookie)
