-- What becomes of a request by the verdict on it that the stored owners give (`Owners::judge` of `nfs_owners`), and
-- that it is the step that the frame of the sequenced operations takes.
use Rattle.std.specs.Prelude.{◌≡◌, ◌↔◌, ℕ, Bool, true, false, not, ◌&&◌, Option, Some, None, option_map, if◌then◌else◌}
use Rattle.nfs_forms.specs.declared.status.Refusal.TheVariants.{BadSeqId, BadStateId}
use Rattle.nfs_owners.specs.Kept.{kept_seen, request_of}
use Rattle.nfs_owners.specs.Owner.{owner_of}
use Rattle.nfs_owners.specs.Owners.{IsJudged}
use Rattle.nfs_owners.specs.declared.kept.KeptCall.{KeptCall}
use Rattle.nfs_owners.specs.declared.kept.Verdict.{Verdict}
use Rattle.nfs_owners.specs.declared.kept.Verdict.TheVariants.{New, Replay, Bad}
use Rattle.nfs_owners.specs.declared.owner.Owner.{Owner}
use Rattle.nfs_owners.specs.declared.state_owner.StateOwner.{StateOwner}
use Rattle.nfs_rules.specs.Finding.{IsCallAt}
use Rattle.nfs_rules.specs.Sequences as sequences
use Rattle.nfs_rules.specs.Sequences.{SequenceStep, Answered, GoesOn, IsSequence, is_open, refusal_to}
use Rattle.nfs_rules.specs.declared.passage.Passage.TheVariants.{Begins, Continues, Restarts}
use Rattle.nfs_state.specs.Kept.{Agrees}
use Rattle.nfs_state.specs.State.{History}
use Rattle.nfs_state.specs.Stored.{Stored, meaning}
use Rattle.nfs_state.specs.declared.request.Request.{Request}
use Rattle.nfs_xdr.specs.declared.op.Op.{Op}

-- the owner is known, and isn't confirmed
abbrev pub is_unconfirmed : Option Owner → Bool
is_unconfirmed None = false
is_unconfirmed (Some o) = not o.state.confirmed

-- A request of a known owner, by the verdict on it and by whether it is an OPEN of an unconfirmed owner. The kept
-- request again is answered as it was. Any other OPEN of an unconfirmed owner starts the owner anew, whatever its
-- sequence id. Of all other requests the owner's next one goes on, and the rest are NFS4ERR_BAD_SEQID.
abbrev pub step_of_known : Bool → StateOwner → Op → Verdict → SequenceStep
step_of_known true name op New = GoesOn Restarts name
step_of_known true name op Bad = GoesOn Restarts name
step_of_known false name op New = GoesOn Continues name
step_of_known false name op Bad = refusal_to op BadSeqId
step_of_known starts_anew name op (Replay answer) = Answered answer.now

-- A request of any owner, by the verdict on it. On a request of an unknown owner there is no verdict: an OPEN begins,
-- and any other request is NFS4ERR_BAD_STATEID.
abbrev pub step_by : Bool → StateOwner → Op → Option Verdict → SequenceStep
step_by starts_anew name op None =
    if is_open op then GoesOn Begins name else refusal_to op BadStateId
step_by starts_anew name op (Some verdict) = step_of_known starts_anew name op verdict

-- Where what is stored for each owner is what its entry in the journal has, and the call is the one that the entry of
-- the request's owner records, the verdict of the stored owners on the request, as `Owners::judge` gives it, leads to
-- the one step that the rules take.
abbrev pub JudgedAsSequenced : Type 0
JudgedAsSequenced =
    (journal : History) (stored : Stored) (name : StateOwner) (seqid : ℕ) (request : Request)
    (call : KeptCall) (verdict : Option Verdict) (step : SequenceStep)
    → Agrees journal stored.owners
    → let found = owner_of name stored.owners in
    ((o : Owner) → found ≡ Some o → IsCallAt journal o.state.number call)
    → IsJudged (option_map (λ o. kept_seen o.state.kept call) found) seqid
    (request_of request.op request.filehandle) verdict
    → let starts_anew = is_open request.op && is_unconfirmed found in
    IsSequence journal (meaning stored) (sequences.Owner name seqid) request step
    ↔ (step ≡ step_by starts_anew name request.op verdict)
