-- The verdict of the stored owners on a request leads to the step that the rules take.
use Rattle.std.proofs.Common.{◌≡◌, ℕ, Bool, true, false, Option, Some, None, refl, sym, subst, ◌∙◌}
use Rattle.std.specs.Prelude.{◌&&◌, option_map}
use Rattle.nfs_owners.specs.Kept.{IsVerdict, Kept, kept_seen, request_of}
use Rattle.nfs_owners.specs.Owner as owners
use Rattle.nfs_owners.specs.Owners.{IsJudged}
use Rattle.nfs_owners.specs.declared.kept.KeptCall.{KeptCall}
use Rattle.nfs_owners.specs.declared.kept.Verdict.{Verdict}
use Rattle.nfs_owners.specs.declared.kept.Verdict.TheVariants as verdicts
use Rattle.nfs_owners.specs.declared.owner.Owner.{Owner}
use Rattle.nfs_owners.specs.declared.state_owner.StateOwner.{StateOwner}
use Rattle.nfs_rules.proofs.Sequencing.{kept_found, owner_sequence, seen_as_kept, unknown_sequence}
use Rattle.nfs_rules.proofs.Uniqueness.{next_differs, sequence_once}
use Rattle.nfs_rules.specs.Finding.{IsCallAt}
use Rattle.nfs_rules.specs.Judging.{JudgedAsSequenced, is_unconfirmed, step_by, step_of_known}
use Rattle.nfs_rules.specs.Sequences as sequences
use Rattle.nfs_rules.specs.Sequences.{IsOfKnown, IsSequence, SequenceStep, is_open}
use Rattle.nfs_state.specs.Kept.{Agrees, IsKeptIn}
use Rattle.nfs_state.specs.State.{History}
use Rattle.nfs_state.specs.Stored.{Stored, meaning}
use Rattle.nfs_state.specs.declared.request.Request.{Request}

of_known : (starts_anew : Bool) (kept : Kept) (name : StateOwner) (seqid : ℕ) (request : Request) (verdict : Verdict) → IsVerdict kept seqid (request_of request.op request.filehandle) verdict → IsOfKnown starts_anew kept name seqid request (step_of_known starts_anew name request.op verdict)
of_known true kept name seqid request verdicts.New is = (λ again. next_differs kept.seqid (sym again.0 ∙ is), refl, refl)
of_known true kept name seqid request verdicts.Bad is = (is.1, refl, refl)
of_known true kept name seqid request (verdicts.Replay answer) is = is
of_known false kept name seqid request verdicts.New is = (verdicts.New, is, refl)
of_known false kept name seqid request verdicts.Bad is = (verdicts.Bad, is, refl)
of_known false kept name seqid request (verdicts.Replay answer) is = (verdicts.Replay answer, is, refl)

-- the rules take this step
of_owner : (journal : History) (stored : Stored) (name : StateOwner) (seqid : ℕ) (request : Request) (o : Owner) (call : KeptCall) (verdict : Option Verdict) → IsKeptIn journal o → owners.owner_of name stored.owners ≡ Some o → IsCallAt journal o.state.number call → IsJudged (Some (kept_seen o.state.kept call)) seqid (request_of request.op request.filehandle) verdict
    → IsSequence journal (meaning stored) (sequences.Owner name seqid) request (step_by (is_open request.op && is_unconfirmed (Some o)) name request.op verdict)
of_owner journal stored name seqid request o call None is there recorded judged = absurd judged
of_owner journal stored name seqid request o call (Some verdict) is there recorded judged =
    let starts_anew = is_open request.op && is_unconfirmed (Some o) in
    let kept_judged : IsVerdict is.kept seqid (request_of request.op request.filehandle) verdict =
    subst (λ (k : Kept). IsVerdict k seqid (request_of request.op request.filehandle) verdict) (seen_as_kept journal o call is recorded) judged in
    owner_sequence journal name stored.owners o is.kept seqid request (step_of_known starts_anew name request.op verdict) is.entry there (of_known starts_anew is.kept name seqid request verdict kept_judged)

-- the call is the one that the entry of the owner, if it is known, records
abbrev IsCallOf : History → Option Owner → KeptCall → Type 0
IsCallOf journal found call = (o : Owner) → found ≡ Some o → IsCallAt journal o.state.number call

taken : (journal : History) (stored : Stored) (name : StateOwner) (seqid : ℕ) (request : Request) (call : KeptCall) (found : Option Owner) (verdict : Option Verdict) → Agrees journal stored.owners → owners.owner_of name stored.owners ≡ found → IsCallOf journal found call → IsJudged (option_map (λ (o : Owner). kept_seen o.state.kept call) found) seqid (request_of request.op request.filehandle) verdict
    → IsSequence journal (meaning stored) (sequences.Owner name seqid) request (step_by (is_open request.op && is_unconfirmed found) name request.op verdict)
taken journal stored name seqid request call None None agrees is recorded judged =
    unknown_sequence journal name stored.owners seqid request _ is refl
taken journal stored name seqid request call None (Some verdict) agrees is recorded judged = absurd cc
taken journal stored name seqid request call (Some o) verdict agrees is recorded judged =
    of_owner journal stored name seqid request o call verdict (kept_found journal name stored.owners o agrees is) is (recorded o refl) judged

pub judged_as_sequenced : JudgedAsSequenced
judged_as_sequenced journal stored name seqid request call verdict step agrees recorded judged =
    let found = owners.owner_of name stored.owners in
    let by_table = step_by (is_open request.op && is_unconfirmed found) name request.op verdict in
    let is_step : SequenceStep → Type 0 = λ s. IsSequence journal (meaning stored) (sequences.Owner name seqid) request s in
    let takes : is_step by_table = taken journal stored name seqid request call found verdict agrees refl recorded judged in
    (λ is. sequence_once journal (meaning stored) (sequences.Owner name seqid) request step by_table is takes, λ same. subst is_step (sym same) takes)
