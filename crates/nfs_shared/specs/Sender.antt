-- Who sends the recalls of the state that threads share, and marks the paths to its clients' callbacks.
use Rattle.std.specs.Prelude.{ℕ, List, [], ◌∷◌, ◌++◌, ◌+◌}
use Rattle.nfs_rpc.specs.declared.recall.Recall.{Recall}

-- what is needed to take recalls, and to mark a path
pub record SenderView : Type 0 where
  -- the recalls that were taken by it, in order, and those that it knows to be put
  pub taken : List Recall
  pub known_put : List Recall
  -- how many entries of the journal came by it
  pub count : ℕ

-- the sender, which has taken one recall more
abbrev pub with_taken : Recall → SenderView → SenderView
with_taken recall sender = record sender { taken = sender.taken ++ recall ∷ [] }

-- knowing that these recalls were put
abbrev pub with_known : List Recall → SenderView → SenderView
with_known recalls sender = record sender { known_put = recalls }

-- the sender, which has made one entry more
abbrev pub with_mark : SenderView → SenderView
with_mark sender = record sender { count = sender.count + 1 }
