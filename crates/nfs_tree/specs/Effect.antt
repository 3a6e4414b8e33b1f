-- What an operation on the tree does.
use Rattle.std.specs.Prelude.{ℕ, Some}
use Rattle.nfs_tree.specs.declared.filehandles.Filehandles.{Filehandles}
use Rattle.nfs_xdr.specs.declared.op_result.OpResult.{OpResult}

-- the operation's answer, and the filehandles after it
pub record Effect : Type 0 where
  pub answer : OpResult
  pub after : Filehandles

-- an effect that leaves both filehandles as they were
abbrev pub stays : Filehandles → OpResult → Effect
stays old answer = record { answer = answer; after = old }

-- an effect that replaces the current filehandle by that of this node
abbrev pub moves_to : Filehandles → ℕ → OpResult → Effect
moves_to old node answer = record { answer = answer; after = record old { current = Some node } }
