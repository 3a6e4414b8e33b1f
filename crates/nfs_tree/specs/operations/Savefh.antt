-- SAVEFH (RFC 7530, section 16.30): the current filehandle is saved, and replaces one that was saved before.
use Rattle.std.specs.Prelude.{ℕ, Option, Some, None}
use Rattle.nfs_tree.specs.declared.filehandles.Filehandles.{Filehandles}
use Rattle.nfs_tree.specs.Effect.{Effect, stays}
use Rattle.nfs_forms.specs.declared.answer.Answer.TheVariants.{Done, Refused}
use Rattle.nfs_xdr.specs.declared.op_result.OpResult.TheVariants as results
use Rattle.nfs_forms.specs.declared.status.Refusal.TheVariants as refusals

-- NFS4ERR_NOFILEHANDLE if there is no current filehandle
abbrev pub savefh_of : Filehandles → Option ℕ → Effect
savefh_of old None = stays old (results.Savefh (Refused refusals.NoFileHandle))
savefh_of old (Some node) =
    record { answer = results.Savefh (Done tt); after = record old { saved = Some node } }

abbrev pub savefh : Filehandles → Effect
savefh old = savefh_of old old.current
