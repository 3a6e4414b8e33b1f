-- PUTROOTFH (RFC 7530, section 16.22): the filehandle of the root replaces the current one.
use Rattle.nfs_tree.specs.declared.filehandles.Filehandles.{Filehandles}
use Rattle.nfs_tree.specs.declared.tree.TheConstants.{ROOT}
use Rattle.nfs_tree.specs.Effect.{Effect, moves_to}
use Rattle.nfs_forms.specs.declared.answer.Answer.TheVariants.{Done}
use Rattle.nfs_xdr.specs.declared.op_result.OpResult.TheVariants as results

abbrev pub putrootfh : Filehandles → Effect
putrootfh old = moves_to old ROOT (results.Putrootfh (Done tt))
