-- What a caller asks of the state, and tells it, each with the answer.
use Rattle.std.specs.Prelude.{ℕ, Bool, Option, Result}
use Rattle.std.specs.declared.alloc.AllocError.{AllocError}
use Rattle.nfs_callbacks.specs.Errands.{callback_of}
use Rattle.nfs_callbacks.specs.declared.errand.Errand.{Errand}
use Rattle.nfs_callbacks.specs.declared.errand.Errand.TheVariants as errands
use Rattle.nfs_callbacks.specs.declared.fault.Fault.{Fault}
use Rattle.nfs_callbacks.specs.declared.probe.MarkError.{MarkError}
use Rattle.nfs_callbacks.specs.declared.probe.Probe.{Probe}
use Rattle.nfs_forms.specs.declared.callback.Callback.{Callback}
use Rattle.nfs_rpc.specs.declared.recall.Recall.{Recall}

pub data Answered : Type 0 where
  Took : Option Recall → Answered
  Probed : ℕ → Result (Option Probe) AllocError → Answered
  Lives : ℕ → Bool → Answered
  HasCallback : ℕ → Callback → Bool → Answered
  HasDelegation : Recall → Bool → Answered
  -- how the call reached the client, or why it didn't; and what came of the mark
  Marked : ℕ → Callback → Result (Unit {0}) Fault → Result (Unit {0}) MarkError → Answered
  -- a call has had no reply for long
  Noticed : ℕ → Callback → Answered

-- Whether there is still reason for a call to this client: for a recall, whether the delegation is still the
-- client's; for a CB_NULL, whether this is the client's callback.
abbrev pub due : ℕ → Errand → Bool → Answered
due client (errands.Recall recall) is = HasDelegation recall is
due client (errands.Null callback) is = HasCallback client callback is

-- whether the call's callback is the client's
abbrev pub current : ℕ → Errand → Bool → Answered
current client errand is = HasCallback client (callback_of errand) is
