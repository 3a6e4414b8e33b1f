use Rattle.nfs_rules.proofs.Sequenced.{answered, answered_decides, fails_as, fails_on, goes_on, ruled_decides, without_filehandle}
use Rattle.nfs_rules.specs.Finding.{requester_seen, sequence_seen}
use Rattle.nfs_state.specs.Room.{state_of}
use Rattle.nfs_owners.specs.StateOwner.{owner_seen}
use Rattle.nfs_rules.specs.Sequences.{IsSequenced, decision_of}
use Rattle.nfs_rules.specs.operations.{own_of}
use Rattle.nfs_rules.proofs.operations.sequenced.decide.Goals as goal
use Rattle.std.proofs.Common.{◌∙◌, ap}
use Rattle.nfs_forms.specs.declared.status.Refusal.TheVariants.{NoFileHandle}
use Rattle.nfs_state.specs.declared.shortage.Shortage.TheVariants.{Memory}
use Rattle.nfs_xdr.specs.declared.op_result.OpResult.{OpResult}
use Rattle.nfs_xdr.specs.declared.opnum.Opnum.{Opnum}
use Rattle.nfs_xdr.specs.OpResult.{refusal_of}

pub returns-in_default : goal.returns-in_default
returns-in_default c =
    let request = c.args.request.now in
    let journal = c.args.store.now.journal.history in
    let state = state_of c.args.store.now.tables in
    let refused : Opnum → OpResult = λ o. refusal_of o NoFileHandle in
    without_filehandle (own_of request.op journal state) journal state (requester_seen c.args.requester) request request.filehandle c.refusal.result c.answer_alone.result c.in_default.not-Some (c.refusal.ensures.value ∙ ap refused c.opnum.ensures) c.answer_alone.ensures

pub returns-in_err-answer : goal.returns-in_err-answer
returns-in_err-answer c =
    let request = c.args.request.now in
    let journal = c.args.store.now.journal.history in
    let state = state_of c.args.store.now.tables in
    let requester = requester_seen c.args.requester in
    let own = own_of request.op journal state in
    fails_as (IsSequenced journal state requester own request) state request.op Memory c.from_residual.result c.from_residual.ensures.0 c.from_residual.ensures.1 (answered_decides own journal state requester request request.filehandle c.in-Some.node c.in-Some.is c.in_err-answer.ensures.memory)

pub returns-in_err-decision_of-in-GoesOn : goal.returns-in_err-decision_of-in-GoesOn
returns-in_err-decision_of-in-GoesOn c =
    let request = c.args.request.now in
    let journal = c.args.store.now.journal.history in
    let state = state_of c.args.store.now.tables in
    let requester = requester_seen c.args.requester in
    let own = own_of request.op journal state in
    let found = c.in_ok-answer in
    let failed = c.from_residual-in_err-decision_of-in-GoesOn in
    fails_as (IsSequenced journal state requester own request) state request.op Memory failed.result failed.ensures.0 failed.ensures.1 (ruled_decides journal state requester own request request.filehandle c.in-Some.node (sequence_seen found.field-0) c.in-GoesOn.passage (owner_seen c.in-GoesOn.name) c.in_ok-ruling-in-GoesOn.ruling c.in-Some.is (ap sequence_seen c.in-GoesOn.is) found.ensures.sequence c.in_ok-ruling-in-GoesOn.ensures.0)

pub returns-in-Answered : goal.returns-in-Answered
returns-in-Answered c =
    let request = c.args.request.now in
    let journal = c.args.store.now.journal.history in
    let state = state_of c.args.store.now.tables in
    let found = c.in_ok-answer in
    answered (own_of request.op journal state) journal state (requester_seen c.args.requester) request request.filehandle c.in-Some.node (sequence_seen found.field-0) c.in-Answered.answer c.answer_alone-in-Answered.result c.in-Some.is (ap sequence_seen c.in-Answered.is) found.ensures.sequence found.ensures.sendable c.answer_alone-in-Answered.ensures

pub returns-in_ok-decision_of-in-GoesOn : goal.returns-in_ok-decision_of-in-GoesOn
returns-in_ok-decision_of-in-GoesOn c =
    let request = c.args.request.now in
    let journal = c.args.store.now.journal.history in
    let state = state_of c.args.store.now.tables in
    let found = c.in_ok-answer in
    goes_on journal state (requester_seen c.args.requester) request request.filehandle c.in-Some.node (sequence_seen found.field-0) c.in-GoesOn.passage (owner_seen c.in-GoesOn.name) c.in_ok-ruling-in-GoesOn.ruling c.in_ok-decision_of-in-GoesOn.field-0 c.in-Some.is c.requires.owner (ap sequence_seen c.in-GoesOn.is) found.ensures.sequence found.ensures.passage c.in_ok-ruling-in-GoesOn.ensures
    (c.in_ok-decision_of-in-GoesOn.ensures ∙ ap (λ n. decision_of c.in-GoesOn.passage (owner_seen c.in-GoesOn.name) n c.in_ok-ruling-in-GoesOn.ruling) (c.newcomer_of-newcomer.ensures journal c.requires.kept))

pub returns-in_err-ruling-in-GoesOn : goal.returns-in_err-ruling-in-GoesOn
returns-in_err-ruling-in-GoesOn c =
    let request = c.args.request.now in
    let journal = c.args.store.now.journal.history in
    let state = state_of c.args.store.now.tables in
    let requester = requester_seen c.args.requester in
    let own = own_of request.op journal state in
    let found = c.in_ok-answer in
    let failed = c.from_residual-in_err-ruling-in-GoesOn in
    let shortage = c.in_err-ruling-in-GoesOn.field-0.0 in
    fails_as (IsSequenced journal state requester own request) state request.op shortage failed.result failed.ensures.0 failed.ensures.1
    (fails_on journal state requester own request request.filehandle c.in-Some.node (sequence_seen found.field-0) c.in-GoesOn.passage (owner_seen c.in-GoesOn.name) shortage c.in-Some.is (ap sequence_seen c.in-GoesOn.is) found.ensures.sequence c.in_err-ruling-in-GoesOn.ensures)
