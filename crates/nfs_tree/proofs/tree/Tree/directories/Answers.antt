use Rattle.std.proofs.Common.{◌≡◌, ap, ◌∙◌, arith}
use Rattle.nfs_tree.specs.Tree.{directories}
use Rattle.nfs_tree.proofs.tree.Tree.directories.Goals as goal

pub returns-clause-few : goal.returns-clause-few
returns-clause-few c =
    let counted : c.directories_among.result ≡ directories c.self.inside.nodes.items = c.directories_among.ensures ∙ ap directories c.as_slice.ensures.value in
    omega (arith, c.self.invariant.few_directories)
