-- LOOKUP (RFC 7530, section 16.13): looks up a name in the directory of the current filehandle. If the object exists,
-- its filehandle replaces the current one; after an error the current one is unchanged.
use Rattle.std.specs.Prelude.{ℕ, List, Option, Some, None, Result, Ok, Err}
use Rattle.nfs_tree.specs.declared.filehandles.Filehandles.{Filehandles}
use Rattle.nfs_tree.specs.declared.node.Node.{Node}
use Rattle.nfs_tree.specs.Effect.{Effect, stays, moves_to}
use Rattle.nfs_tree.specs.Tree.{resolution}
use Rattle.nfs_forms.specs.declared.answer.Answer.TheVariants.{Done, Refused}
use Rattle.nfs_xdr.specs.declared.op_result.OpResult.TheVariants as results
use Rattle.nfs_forms.specs.declared.status.Refusal.{Refusal}
use Rattle.nfs_forms.specs.declared.status.Refusal.TheVariants as refusals

abbrev pub lookup_found : Filehandles → Result ℕ Refusal → Effect
lookup_found old (Err refusal) = stays old (results.Lookup (Refused refusal))
lookup_found old (Ok node) = moves_to old node (results.Lookup (Done tt))

-- NFS4ERR_NOFILEHANDLE if there is no current filehandle
abbrev pub lookup_at : List Node → Filehandles → Option ℕ → List ℕ → Effect
lookup_at nodes old None name = stays old (results.Lookup (Refused refusals.NoFileHandle))
lookup_at nodes old (Some node) name = lookup_found old (resolution nodes node name)

abbrev pub lookup : List Node → Filehandles → List ℕ → Effect
lookup nodes old name = lookup_at nodes old old.current name
