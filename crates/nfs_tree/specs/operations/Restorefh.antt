-- RESTOREFH (RFC 7530, section 16.29): the saved filehandle replaces the current one, and stays saved.
use Rattle.std.specs.Prelude.{ℕ, Option, Some, None}
use Rattle.nfs_tree.specs.declared.filehandles.Filehandles.{Filehandles}
use Rattle.nfs_tree.specs.Effect.{Effect, stays, moves_to}
use Rattle.nfs_forms.specs.declared.answer.Answer.TheVariants.{Done, Refused}
use Rattle.nfs_xdr.specs.declared.op_result.OpResult.TheVariants as results
use Rattle.nfs_forms.specs.declared.status.Refusal.TheVariants as refusals

-- NFS4ERR_RESTOREFH if no filehandle is saved
abbrev pub restorefh_of : Filehandles → Option ℕ → Effect
restorefh_of old None = stays old (results.Restorefh (Refused refusals.RestoreFh))
restorefh_of old (Some node) = moves_to old node (results.Restorefh (Done tt))

abbrev pub restorefh : Filehandles → Effect
restorefh old = restorefh_of old old.saved
