-- GETFH (RFC 7530, section 16.8): returns the current filehandle.
use Rattle.std.specs.Prelude.{ℕ, List, Option, Some, None}
use Rattle.nfs_tree.specs.declared.filehandles.Filehandles.{Filehandles}
use Rattle.nfs_tree.specs.Effect.{Effect, stays}
use Rattle.nfs_tree.specs.Tree.{handle_of}
use Rattle.nfs_forms.specs.declared.answer.Answer.TheVariants.{Done, Refused}
use Rattle.nfs_xdr.specs.declared.op_result.OpResult.TheVariants as results
use Rattle.nfs_forms.specs.declared.status.Refusal.TheVariants as refusals
use Rattle.nfs_forms.specs.Answer.{PlainAnswer}

-- NFS4ERR_NOFILEHANDLE if there is no current filehandle
abbrev pub filehandle_of : Option ℕ → PlainAnswer (List ℕ)
filehandle_of None = Refused refusals.NoFileHandle
filehandle_of (Some node) = Done (handle_of node)

-- neither filehandle changes
abbrev pub getfh : Filehandles → Effect
getfh old = stays old (results.Getfh (filehandle_of old.current))
