-- PUTFH (RFC 7530, section 16.20): the given filehandle replaces the current one.
use Rattle.std.specs.Prelude.{ℕ, List, Option, Some, None}
use Rattle.nfs_tree.specs.declared.filehandles.Filehandles.{Filehandles}
use Rattle.nfs_tree.specs.declared.node.Node.{Node}
use Rattle.nfs_tree.specs.Effect.{Effect, stays, moves_to}
use Rattle.nfs_tree.specs.Tree.{node_of}
use Rattle.nfs_forms.specs.declared.answer.Answer.TheVariants.{Done, Refused}
use Rattle.nfs_xdr.specs.declared.op_result.OpResult.TheVariants as results
use Rattle.nfs_forms.specs.declared.status.Refusal.TheVariants as refusals

-- NFS4ERR_BADHANDLE if it is the filehandle of no node
abbrev pub putfh_at : Filehandles → Option ℕ → Effect
putfh_at old None = stays old (results.Putfh (Refused refusals.BadHandle))
putfh_at old (Some node) = moves_to old node (results.Putfh (Done tt))

abbrev pub putfh : List Node → Filehandles → List ℕ → Effect
putfh nodes old handle = putfh_at old (node_of nodes handle)
