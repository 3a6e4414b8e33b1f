-- COMMIT (RFC 7530, section 16.3): bytes of a file are to be in stable storage. All that was written is there already,
-- as far as this server has one.
use Rattle.std.specs.Prelude.{ℕ, Option, Some, None, if◌then◌else◌}
use Rattle.nfs_forms.specs.Answer.{PlainAnswer}
use Rattle.nfs_forms.specs.declared.answer.Answer.TheVariants.{Done, Refused}
use Rattle.nfs_forms.specs.declared.status.Refusal.TheVariants as refusals
use Rattle.nfs_forms.specs.declared.verifier.Verifier.{Verifier}
use Rattle.nfs_tree.specs.declared.filehandles.Filehandles.{Filehandles}
use Rattle.nfs_tree.specs.Effect.{Effect, stays}
use Rattle.nfs_tree.specs.Exports.{Exported, verifier_of}
use Rattle.nfs_tree.specs.Tree.{is_directory}
use Rattle.nfs_xdr.specs.declared.op_result.OpResult.TheVariants as results

-- NFS4ERR_NOFILEHANDLE if there is no current filehandle, NFS4ERR_ISDIR for a directory; otherwise the verifier that
-- WRITE gives. Which bytes these are doesn't matter.
abbrev pub commit_of : Exported → Option ℕ → PlainAnswer Verifier
commit_of export None = Refused refusals.NoFileHandle
commit_of export (Some node) =
    if is_directory export.nodes node then Refused refusals.IsDir
    else Done (verifier_of export.epoch)

-- neither filehandle changes
abbrev pub commit : Exported → Filehandles → Effect
commit export old = stays old (results.Commit (commit_of export old.current))
