-- How one entry of the journal leads from a state to the next.
use Rattle.std.specs.Prelude.{◌≡◌, ◌≢◌, ◌<◌, length, Some, IsTrue}
use Rattle.nfs_state.specs.declared.effect.Effect.{Effect}
use Rattle.nfs_state.specs.declared.entry.Call.{Call}
use Rattle.nfs_state.specs.declared.entry.Entry.{Entry}
use Rattle.nfs_state.specs.declared.entry.Entry.TheVariants as entries
use Rattle.nfs_state.specs.declared.entry.TheConstants.{JOURNAL_LIMIT}
use Rattle.nfs_state.specs.declared.request.Request.{Request}
use Rattle.nfs_state.specs.Changes.{after}
use Rattle.nfs_state.specs.Entries.{IsFilehandle, entry_of, resource}
use Rattle.nfs_rules.specs.entries.Expire.{IsExpiry}
use Rattle.nfs_rules.specs.entries.Forget.{IsForgetting}
use Rattle.nfs_rules.specs.entries.Path.{IsPathMark}
use Rattle.nfs_rules.specs.entries.Revoke.{IsRevocation}
use Rattle.nfs_rules.specs.operations.{IsRuled}
use Rattle.nfs_state.specs.State.{State, History}
use Rattle.nfs_tree.specs.Profiles.{has_entry}
use Rattle.nfs_xdr.specs.declared.op_result.OpResult.{OpResult}

-- In the state old, the rule of the call's request decides this answer and this effect. Calls that are answered
-- NFS4ERR_RESOURCE, that the profile refuses, or whose filehandle belongs to no node, are never in the journal.
pub record IsAnswered (journal : History) (old : State) (call : Call)
    (effect : Effect) : Type 0 where
  pub rule : IsRuled call.request.op journal old call.request
      (Some (record { answer = call.answer; effect = effect }))
  pub other : call.answer ≢ resource call.request.op
  pub entry : IsTrue (has_entry journal.policy.profile call.request.op)
  pub node : IsFilehandle journal call.request.filehandle

-- In the state old, after this journal, the entry may have this effect.
abbrev pub Allows : History → State → Entry → Effect → Type 0
Allows journal old (entries.Call call) effect = IsAnswered journal old call effect
Allows journal old (entries.Expire expire) effect = IsExpiry journal old expire effect
Allows journal old (entries.Revoke revoke) effect = IsRevocation journal old revoke effect
Allows journal old (entries.Path path) effect = IsPathMark journal old path effect
Allows journal old (entries.Forget forget) effect = IsForgetting journal old forget effect

-- In the state old, after this journal, the entry may come next and leads to the state new.
pub record Step (journal : History) (old : State) (entry : Entry) (new : State) : Type 0 where
  pub below : length journal.entries < JOURNAL_LIMIT
  pub effect : Effect
  pub allowed : Allows journal old entry effect
  pub state : new ≡ after (length journal.entries) effect old

-- For one journal, state and request there is at most one answer, and at most one state after it.
abbrev pub AtMostOneStep : Type 0
AtMostOneStep =
    (journal : History) (old : State) (request : Request) (answer answer' : OpResult)
    (new new' : State)
    → Step journal old (entry_of request answer) new
    → Step journal old (entry_of request answer') new'
    → (answer ≡ answer') × (new ≡ new')

-- For one journal, state and entry, of whatever kind, there is at most one state after it.
abbrev pub AtMostOneStateAfter : Type 0
AtMostOneStateAfter =
    (journal : History) (old : State) (entry : Entry) (new new' : State)
    → Step journal old entry new
    → Step journal old entry new'
    → new ≡ new'

-- The entry may not come next in the journal.
abbrev pub HasNoStep : History → State → Entry → Type 0
HasNoStep journal old entry = (new : State) → Step journal old entry new → ⊥

-- No answer to the request may come next in the journal.
abbrev pub HasNoAnswer : History → State → Request → Type 0
HasNoAnswer journal old request =
    (answer : OpResult) → HasNoStep journal old (entry_of request answer)
