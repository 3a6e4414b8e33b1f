use Rattle.std.proofs.Common.{◌≡◌, None, refl, sym, ap, ◌∙◌, subst}
use Rattle.std.specs.Option.{option_copied}
use Rattle.std.proofs.lemmas.Result.{IfOk-weaker, on_err_weaker}
use Rattle.nfs_rules.specs.Deciding.{HasAnswer}
use Rattle.nfs_rules.specs.declared.sequence.Requester.{Requester}
use Rattle.nfs_rules.specs.declared.sequence.SequenceStep.{SequenceStep}
use Rattle.nfs_rules.specs.Finding.{requester_seen, sequence_seen}
use Rattle.nfs_state.specs.Room.{state_of}
use Rattle.nfs_rules.specs.Sequences.{Answered, IsSequence}
use Rattle.nfs_rules.proofs.Sequencing.{has_call, known_sequence, none_found, passage_known, passage_unknown, sendable_found, unknown_sequence}
use Rattle.nfs_owners.specs.Kept.{kept_seen}
use Rattle.nfs_owners.specs.Owner.{owner_of}
use Rattle.nfs_owners.specs.StateOwner.{owner_seen}
use Rattle.nfs_rules.proofs.sequence.sequence_of.Goals as goal

none : (c : goal.After-begin) → owner_of (owner_seen c.in-Owner.name) c.args.store.now.tables.owners.owners ≡ None
none c = none_found (owner_seen c.in-Owner.name) c.args.store.now.tables.owners.owners (sym c.find.ensures ∙ ap option_copied c.in-None.is)

pub kept_call-call-requires : goal.kept_call-call-requires
kept_call-call-requires c = has_call c.args.store.now.journal.history (owner_seen c.in-Owner.name) c.args.store.now.tables.owners.owners c.in-Some.known.now c.requires.kept (sym c.find.ensures ∙ ap option_copied c.in-Some.is)

pub resume-requires : goal.resume-requires
resume-requires c = sendable_found c.args.store.now.journal.history (owner_seen c.in-Owner.name) c.args.store.now.tables.owners.owners c.in-Some.known.now c.kept_call-call.result c.requires.kept (sym c.find.ensures ∙ ap option_copied c.in-Some.is) c.kept_call-call.ensures

pub returns-in-None-clause-sequence : goal.returns-in-None-clause-sequence
returns-in-None-clause-sequence c =
    let is_sequence : Requester → Type 0 = λ r. IsSequence c.args.store.now.journal.history (state_of c.args.store.now.tables) (requester_seen r) c.args.request.now (sequence_seen c.begin.result) in
    subst is_sequence (sym c.in-Owner.is)
    (unknown_sequence c.args.store.now.journal.history (owner_seen c.in-Owner.name) c.args.store.now.tables.owners.owners c.in-Owner.seqid c.args.request.now (sequence_seen c.begin.result) (none c) c.begin.ensures.sequence)

pub returns-in-None-clause-passage : goal.returns-in-None-clause-passage
returns-in-None-clause-passage c =
    passage_unknown (state_of c.args.store.now.tables) (owner_seen c.in-Owner.name) c.args.store.now.tables.owners.owners c.args.request.now (sequence_seen c.begin.result) refl (none c) c.begin.ensures.sequence

pub returns-in-Some-clause-sequence : goal.returns-in-Some-clause-sequence
returns-in-Some-clause-sequence c =
    let is_sequence : Requester → SequenceStep → Type 0 = λ r s. IsSequence c.args.store.now.journal.history (state_of c.args.store.now.tables) (requester_seen r) c.args.request.now (sequence_seen s) in
    IfOk-weaker c.resume.result _ _
    (λ s is. subst (λ r. is_sequence r s) (sym c.in-Owner.is) (known_sequence c.args.store.now.journal.history (owner_seen c.in-Owner.name) c.args.store.now.tables.owners.owners c.in-Some.known.now c.kept_call-call.result c.in-Owner.seqid c.args.request.now (sequence_seen s) c.requires.kept (sym c.find.ensures ∙ ap option_copied c.in-Some.is) c.kept_call-call.ensures is))
    c.resume.ensures.sequence

pub returns-in-Some-clause-passage : goal.returns-in-Some-clause-passage
returns-in-Some-clause-passage c =
    IfOk-weaker c.resume.result _ _
    (λ s is. passage_known (state_of c.args.store.now.tables) (owner_seen c.in-Owner.name) c.args.store.now.tables.owners.owners c.in-Some.known.now (kept_seen c.in-Some.known.now.kept c.kept_call-call.result) c.in-Owner.seqid c.args.request.now (sequence_seen s) refl (sym c.find.ensures ∙ ap option_copied c.in-Some.is) is)
    c.resume.ensures.sequence

pub returns-in-Some-clause-memory : goal.returns-in-Some-clause-memory
returns-in-Some-clause-memory c =
    let has_answer : Requester → Type 0 = λ r. HasAnswer (IsSequence c.args.store.now.journal.history (state_of c.args.store.now.tables) (requester_seen r) c.args.request.now) in
    on_err_weaker c.resume.result
    (λ has. subst has_answer (sym c.in-Owner.is) (
      has.0,
      known_sequence c.args.store.now.journal.history (owner_seen c.in-Owner.name) c.args.store.now.tables.owners.owners c.in-Some.known.now c.kept_call-call.result c.in-Owner.seqid c.args.request.now (Answered has.0) c.requires.kept (sym c.find.ensures ∙ ap option_copied c.in-Some.is) c.kept_call-call.ensures has.1,
    ))
    c.resume.ensures.memory
