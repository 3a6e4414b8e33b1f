use Rattle.std.proofs.Common.{◌++◌, ap, sym, subst, ◌∙◌}
use Rattle.nfs_tree.specs.Tree.{Files, IsTree}
use Rattle.nfs_tree.specs.Building.{names_of, way}
use Rattle.nfs_tree.proofs.Growing.{entry_grows}
use Rattle.nfs_tree.proofs.tree.Tree.add.Goals as goal

pub invariant_of-self-2 : goal.invariant_of-self-2
invariant_of-self-2 c =
    let old = c.args.self.now in
    let tree : IsTree old.nodes = subst (λ (f : Files). IsTree f.nodes) c.self.view_is c.self.invariant in
    entry_grows old c.args.entry.now.path c.in_ok-names.names c.way-end.result.0 c.way-end.result.1.now c.args.entry.now.kind c.len.result c.in_ok-chain.chain.items c.append.new.self.items tree
    (ap names_of (sym c.as_slice.ensures) ∙ c.in_ok-names.ensures)
    (ap (way old.nodes 0) (sym c.as_slice-2.ensures) ∙ c.way-end.ensures.way)
    (sym c.is_too_many.ensures ∙ c.if-is_too_many.false)
    (sym c.is_directory.ensures ∙ c.if-not-is_directory.false)
    c.len.ensures.count
    c.in_ok-chain.ensures
    (c.in_ok-append.ensures.items ∙ ap (λ (f : Files). f.nodes ++ c.in_ok-chain.chain.items) c.self.view_is)
