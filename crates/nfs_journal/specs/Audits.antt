-- What an audit of a journal says.
use Rattle.std.specs.Prelude.{◌≡◌, ℕ, List, ◌∷◌, ◌++◌, length, Result, Ok, Err}
use Rattle.nfs_core.specs.Lawful.{Lawful}
use Rattle.nfs_core.specs.Server.{Server, IsLawful}
use Rattle.nfs_core.specs.Step.{HasNoStep}
use Rattle.nfs_journal.specs.declared.audit_error.AuditError.{AuditError}
use Rattle.nfs_journal.specs.declared.audit_error.AuditError.TheVariants as errors
use Rattle.nfs_state.specs.State.{State, History}
use Rattle.nfs_state.specs.declared.entry.Entry.{Entry}

-- the entries lead one after the other from an empty server to some state
abbrev pub IsLawfulJournal : History → Type 0
IsLawfulJournal h = (state : State) × Lawful h state

-- The journal has an entry with this number. Those before it lead to a state in which it can't come next.
pub record IsWrongAt (number : ℕ) (h : History) : Type 0 where
  pub before : List Entry
  pub entry : Entry
  pub after : List Entry
  pub state : State
  pub parts : h.entries ≡ before ++ entry ∷ after
  pub place : number ≡ length before
  pub lawful : Lawful (record h { entries = before }) state
  pub wrong : HasNoStep (record h { entries = before }) state entry

-- What an audit returned is a server with this journal, which leads to what is stored there, and none of whose recalls
-- was taken; or the number of the first wrong entry, with which the journal leads to no state, unless the audit ran out
-- of memory.
abbrev pub Audits : Result Server AuditError → History → Type 0
Audits (Ok core) h = (core.journal ≡ h) × IsLawful core × (core.recalls.taken ≡ 0)
Audits (Err errors.Format) h = ⊥
Audits (Err (errors.WrongAnswer number)) h = IsWrongAt number h × (IsLawfulJournal h → ⊥)
Audits (Err errors.Memory) h = Unit {0}
