-- The passes of the queue, and what contracts see of them.
use Rattle.std.specs.Prelude.{◌≡◌, List, [], ◌∷◌, ◌++◌}
use Rattle.atomic_table.specs.Seated.{TableId}
use Rattle.crossbeam_queue.specs.Passes.{Pass, view}
use Rattle.nfs_rpc.specs.declared.recall.Recall.{Recall}
use Rattle.nfs_shared.specs.declared.recall_queue.Log.{Log}
use Rattle.nfs_shared.specs.RecallOrder.{putter, taker}

pub record PassView : Type 0 where
  pub queue : TableId
  -- what was put, or taken, by this pass, in order
  pub recalls : List Recall
  -- what is known to be taken, or put, by the other one
  pub known : List Recall

-- the pass, with one recall more
abbrev pub with_recall : Recall → PassView → PassView
with_recall recall pass = record pass { recalls = pass.recalls ++ recall ∷ [] }

abbrev pub log_of : Pass Recall Log → Log
log_of token = view token

-- the pass is one by which recalls are put
abbrev pub IsPutter : Pass Recall Log → Type 0
IsPutter token = (token.me.1 ≡ []) × (log_of token ≡ putter (log_of token).put (log_of token).taken)

-- the pass is one by which recalls are taken
abbrev pub IsTaker : Pass Recall Log → Type 0
IsTaker token = (token.me.1 ≡ []) × (log_of token ≡ taker (log_of token).put (log_of token).taken)
