-- The entries that the journal of a core gains when the core is asked questions as a service.
use Rattle.std.proofs.Common.{◌≡◌, ℕ, Option, Some, None, List, [], ◌∷◌, ◌++◌, refl, sym, ap, ◌∙◌, inl, inr, append_assoc}
use Rattle.std.proofs.lemmas.List.{append-nil}
use Rattle.nfs_state.specs.declared.entry.Entry.{Entry}
use Rattle.nfs_core.specs.Entered.{Answers}
use Rattle.nfs_core.specs.Server.{Server, AreAlike}
use Rattle.nfs_core.specs.declared.entered.Entered.{Entered}
use Rattle.nfs_state.specs.State.{History}
use Rattle.nfs_state.specs.Entries.{entry_of}
use Rattle.nfs_state.specs.declared.request.Request.{Request}
use Rattle.nfs_tree.specs.Exports.{Exported}
use Rattle.nfs_server.specs.Asking.{Operation, Question, Renewal}
use Rattle.nfs_server.specs.CourseLaws.{GainsEntries}
use Rattle.nfs_server.specs.Device.{Device}
use Rattle.nfs_server.specs.Entries.{AreEntries, QuestionsAreEntries}
use Rattle.nfs_server.specs.Exchange.{rules as answered_by}
use Rattle.nfs_server.specs.LentAnswers.{IsGiven}
use Rattle.nfs_server.specs.Leases.{LentCore}
use Rattle.nfs_server.specs.laws.Gaining.{IsGain, asked_gain, course_gains, entries_then}
use Rattle.nfs_xdr.specs.declared.op_result.OpResult.{OpResult}

-- Answering questions with these answers, the journal gained their entries and didn't change otherwise.
abbrev pub Gains : List Question → List OpResult → History → History → Type 0
Gains questions answers old new =
    (entries : List Entry) × AreEntries questions answers entries × (new ≡ record old { entries = old.entries ++ entries })

gains_then : (questions more : List Question) (answers others : List OpResult) (old mid new : History) → Gains questions answers old mid → Gains more others mid new → Gains (questions ++ more) (answers ++ others) old new
gains_then questions more answers others old mid new first second = (
  first.0 ++ second.0,
  entries_then questions more answers others first.0 second.0 first.1 second.1,
  second.2
      ∙ ap (λ (j : History). record j { entries = j.entries ++ second.0 }) first.2
      ∙ ap (λ (es : List Entry). record old { entries = es }) (append_assoc old.entries first.0 second.0),
)

-- a core that is alike has the same journal
gains_alike : (old new : Server) → AreAlike old new → Gains [] [] old.journal new.journal
gains_alike old new alike =
    ([], refl, alike.0 ∙ ap (λ (es : List Entry). record old.journal { entries = es }) (sym (append-nil old.journal.entries)))

-- an operation that was entered, or was answered NFS4ERR_RESOURCE
gains_operation : (old new : Server) (request : Request) (answer : OpResult) (entered : Option Entered) → Answers old new request answer entered → Gains (Operation request ∷ []) (answer ∷ []) old.journal new.journal
gains_operation old new request answer (Some entered) applied =
    (entry_of request answer ∷ [], inr (applied.0.2.allowed.other, [], refl, refl), applied.0.1)
gains_operation old new request answer None refused =
    let same = gains_alike old new refused.1 in
    (same.0, inl (refused.0, same.1), same.2)

-- one question
gains_one : (old new : LentCore) (question : Question) (answer : OpResult) → IsGiven old question answer new → Gains (question ∷ []) (answer ∷ []) old.core.journal new.core.journal
gains_one old new (Operation request) answer given =
    gains_operation old.core new.core request answer given.0 given.1
gains_one old new (Renewal moment client) answer given =
    gains_alike old.core new.core (ap (λ (s : Server). s.journal) given.1, ap (λ (s : Server). s.stored) given.1, ap (λ (s : Server). s.recalls) given.1)

-- states of a lent core that differ at most in room
abbrev AreAlikeLent : LentCore → LentCore → Type 0
AreAlikeLent old new = AreAlike old.core new.core × (new.book ≡ old.book)

abbrev LentGains : LentCore → List Question → List OpResult → LentCore → Type 0
LentGains old questions answers new = Gains questions answers old.core.journal new.core.journal

lent_gains : IsGain IsGiven AreAlikeLent LentGains
lent_gains = record {
  same = λ (s : LentCore). ((refl, refl, refl), refl);
  stays = λ old new alike. gains_alike old.core new.core alike.0;
  one = gains_one;
  more = λ old mid new questions more answers others. gains_then questions more answers others old.core.journal mid.core.journal new.core.journal;
}

pub questions_are_entries : QuestionsAreEntries
questions_are_entries old new questions answers asked =
    asked_gain IsGiven AreAlikeLent LentGains lent_gains old new questions answers asked

pub gains_entries : {D C : Type 0} (device : Device D) (export : Exported) (tells : C → ℕ → C → Type 0) → GainsEntries device (answered_by export IsGiven AreAlikeLent tells)
gains_entries device export tells before after course result is =
    course_gains device (answered_by export IsGiven AreAlikeLent tells) LentGains lent_gains before course result after is
