-- The operations of a COMPOUND answered one after the other, with the state of the service between them.
use Rattle.std.specs.Prelude.{◌≡◌, ℕ, ◌+◌, List, length, map}
use Rattle.nfs_tree.specs.Effect.{Effect}
use Rattle.nfs_tree.specs.declared.filehandles.Filehandles.{Filehandles}
use Rattle.nfs_tree.specs.Filehandles.{no_filehandles}
use Rattle.nfs_tree.specs.Exports.{Exported, export_seen}
use Rattle.nfs_server.specs.Answering.{Asked, Dispatch, Known, Ask, Outcome, allowed, dispatch, handles_after_answer, outcome_of}
use Rattle.nfs_server.specs.Asking.{Asks, Question, question_of}
use Rattle.nfs_server.specs.declared.compound.Context.{Context}
use Rattle.nfs_xdr.specs.declared.arg_op.ArgOp.{ArgOp}
use Rattle.nfs_xdr.specs.declared.op_result.OpResult.{OpResult}
use Rattle.nfs_forms.specs.declared.principal.Principal.{Principal}
use Rattle.nfs_xdr.specs.OpResult.{op_result}

-- What stays the same for all operations of a COMPOUND, and how the service may answer.
pub record Asker (S : Type 0) : Type 1 where
  pub gives : S → Question → OpResult → S → Type 0
  pub export : Exported
  pub moment : ℕ
  pub principal : Principal

abbrev pub asker_of : {S : Type 0} → (S → Question → OpResult → S → Type 0) → Context → Asker S
asker_of gives context = record {
  gives = gives;
  export = export_seen context.export.now;
  moment = context.moment;
  principal = context.principal;
}

-- What changes from one operation to the next: the service, the filehandles, and the length of the reply's record so
-- far.
pub record Place (S : Type 0) : Type 0 where
  pub service : S
  pub handles : Filehandles
  pub size : ℕ

-- before the first operation
abbrev pub start : {S : Type 0} → S → ℕ → Place S
start service size = record { service = service; handles = no_filehandles; size = size }

-- after an answer with this effect, which leaves the service in this state
abbrev pub place_after : {S : Type 0} → Place S → Effect → S → Place S
place_after old effect service = record {
  service = service;
  handles = effect.after;
  size = old.size + length (op_result.encoding effect.answer);
}

-- An operation that is dispatched in this way has this effect, and leaves the service in this state.
abbrev pub HasEffect : {S : Type 0} → Asker S → Place S → Dispatch → Effect → S → Type 0
HasEffect asker old (Known known) effect service = (effect ≡ known) × (service ≡ old.service)
HasEffect asker old (Ask asked) effect service =
    asker.gives old.service (question_of asker.moment asker.principal asked) effect.answer service
    × (effect.after ≡ handles_after_answer asker.export old.handles asked effect.answer)

-- At this place the operation has this effect, and leaves the service in this state.
abbrev pub IsAnswered : {S : Type 0} → Asker S → Place S → ArgOp → Effect → S → Type 0
IsAnswered asker old op effect service =
    HasEffect asker old (dispatch asker.export old.handles old.size op) effect service

-- At this place the operation, which the profile doesn't refuse, has this effect, and leaves the service in this state.
abbrev pub IsAllowed : {S : Type 0} → Asker S → Place S → ArgOp → Effect → S → Type 0
IsAllowed asker old op effect service =
    HasEffect asker old (allowed asker.export old.handles old.size op) effect service

-- the questions and the results from this place on, given the service's answers
abbrev pub outcome_from : {S : Type 0} → Asker S → Place S → List ArgOp → List OpResult → Outcome
outcome_from asker old ops answers = outcome_of asker.export old.handles old.size ops answers

-- The results are those that follow, from this place on, from some answers of the service to the questions that it is
-- asked.
abbrev pub IsDetermined : {S : Type 0} → Asker S → Place S → List ArgOp → List OpResult → S → Type 0
IsDetermined asker old ops results new =
    let asks : List Asked → List Question = map (question_of asker.moment asker.principal) in
    (answers : List OpResult)
    × Asks asker.gives old.service (asks (outcome_from asker old ops answers).asked) answers new
    × (results ≡ (outcome_from asker old ops answers).results)
