use Rattle.std.proofs.Common.{arith}
use Rattle.nfs_tree.proofs.Nodes.{few_nodes}
use Rattle.nfs_tree.proofs.tree.Tree.len.Goals as goal

pub overflow_cast-result : goal.overflow_cast-result
overflow_cast-result c = omega (arith, few_nodes c.self.inside.nodes.items c.self.invariant)

pub overflow_add-result : goal.overflow_add-result
overflow_add-result c = omega (arith, few_nodes c.self.inside.nodes.items c.self.invariant)

pub returns-clause-few : goal.returns-clause-few
returns-clause-few c = omega (arith, few_nodes c.self.inside.nodes.items c.self.invariant)
