use Rattle.std.proofs.Common.{◌<◌, length, arith}
use Rattle.nfs_tree.specs.Building.{tree_of}
use Rattle.nfs_tree.proofs.Builds.{tree_started, entry_added}
use Rattle.nfs_tree.proofs.tree.Tree.from_toml.Goals as goal

pub loop-entry-init : goal.loop-entry-init
loop-entry-init c =
    rw (c.as_slice-entry-items.ensures, c.new.ensures.items) (tree_started c.args.text.now c.in_ok-document.document c.in_ok-document.ensures)

pub loop-entry-preserved : goal.loop-entry-preserved
loop-entry-preserved c =
    let entries = c.as_slice-entry-items.result.now in
    let within : c.loop-entry.entry-index < length entries = omega arith in
    entry_added c.loop-entry.tree c.add.new.self entries c.loop-entry.entry-index c.entry-item.result (tree_of c.args.text.now) within c.entry-item.is c.in_ok-add.ensures.ok c.loop-entry.invariant
