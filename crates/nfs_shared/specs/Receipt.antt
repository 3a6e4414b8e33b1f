-- What contracts see of a receipt.
use Rattle.std.specs.Prelude.{ℕ}
use Rattle.nfs_state.specs.declared.entry.Call.{Call}

-- the place of the seat that the call was made with, the number of its entry, and the entry
pub record ReceiptView : Type 0 where
  pub place : ℕ
  pub number : ℕ
  pub call : Call
