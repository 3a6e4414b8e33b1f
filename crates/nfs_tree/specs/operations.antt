-- The operations that need only the tree and the filehandles.
use Rattle.std.specs.Prelude.{Option, Some, None}
use Rattle.nfs_tree.specs.declared.filehandles.Filehandles.{Filehandles}
use Rattle.nfs_tree.specs.Effect.{Effect}
use Rattle.nfs_tree.specs.Exports.{Exported}
use Rattle.nfs_tree.specs.operations.Access.{access}
use Rattle.nfs_tree.specs.operations.Commit.{commit}
use Rattle.nfs_tree.specs.operations.Getfh.{getfh}
use Rattle.nfs_tree.specs.operations.Lookup.{lookup}
use Rattle.nfs_tree.specs.operations.Putfh.{putfh}
use Rattle.nfs_tree.specs.operations.Putrootfh.{putrootfh}
use Rattle.nfs_tree.specs.operations.Restorefh.{restorefh}
use Rattle.nfs_tree.specs.operations.Savefh.{savefh}
use Rattle.nfs_xdr.specs.declared.op.Op.{Op}
use Rattle.nfs_xdr.specs.declared.op.Op.TheVariants as ops
pub mod Access
pub mod Commit
pub mod Getfh
pub mod Lookup
pub mod Putfh
pub mod Putrootfh
pub mod Restorefh
pub mod Savefh

-- The effect of an operation that needs only what is exported and the filehandles. Other operations have no effect
-- here.
abbrev pub effect_of : Exported → Filehandles → Op → Option Effect
effect_of export old (ops.Access requested) = Some (access export old requested)
effect_of export old (ops.Commit args) = Some (commit export old)
effect_of export old ops.Getfh = Some (getfh old)
effect_of export old (ops.Lookup name) = Some (lookup export.nodes old name)
effect_of export old (ops.Putfh handle) = Some (putfh export.nodes old handle)
effect_of export old ops.Putrootfh = Some (putrootfh old)
effect_of export old ops.Restorefh = Some (restorefh old)
effect_of export old ops.Savefh = Some (savefh old)
effect_of export old op = None
