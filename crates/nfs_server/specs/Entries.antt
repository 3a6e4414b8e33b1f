-- The entries that the journal of a core gains when the core is asked questions as a service.
use Rattle.std.specs.Prelude.{◌≡◌, ◌≢◌, ◌⊎◌, List, [], ◌∷◌, ◌++◌}
use Rattle.nfs_state.specs.declared.entry.Entry.{Entry}
use Rattle.nfs_state.specs.Entries.{entry_of, resource}
use Rattle.nfs_server.specs.Asking.{Asks, Operation, Question, Renewal}
use Rattle.nfs_server.specs.LentAnswers.{IsGiven}
use Rattle.nfs_server.specs.Leases.{LentCore}
use Rattle.nfs_xdr.specs.declared.op_result.OpResult.{OpResult}

-- The entries are the operations that were asked, with their answers, in order, except those that were answered
-- NFS4ERR_RESOURCE. A renewal makes none.
abbrev pub AreEntries : List Question → List OpResult → List Entry → Type 0
AreEntries [] [] entries = entries ≡ []
AreEntries (Operation request ∷ questions) (answer ∷ answers) entries =
    ((answer ≡ resource request.op) × AreEntries questions answers entries)
    ⊎ ((answer ≢ resource request.op)
    × (rest : List Entry)
    × (entries ≡ entry_of request answer ∷ rest)
    × AreEntries questions answers rest)
AreEntries (Renewal moment client ∷ questions) (answer ∷ answers) entries =
    AreEntries questions answers entries
AreEntries [] (answer ∷ answers) entries = ⊥
AreEntries (question ∷ questions) [] entries = ⊥

-- By answering questions a core's journal gains their entries, and doesn't change otherwise.
abbrev pub QuestionsAreEntries : Type 0
QuestionsAreEntries =
    (old new : LentCore) (questions : List Question) (answers : List OpResult)
    → Asks IsGiven old questions answers new
    → (entries : List Entry)
    × AreEntries questions answers entries
    × (new.core.journal ≡ record old.core.journal { entries = old.core.journal.entries ++ entries })
