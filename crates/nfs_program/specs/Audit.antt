-- What the program tells of the bytes of a file that may be a journal.
use Rattle.std.specs.Prelude.{◌≡◌, ◌⊎◌, ℕ, ◌+◌, List, ◌++◌, length, codes, Result, Ok, Err}
use Rattle.std.specs.Fmt.{decimal}
use Rattle.nfs_journal.specs.Audits.{IsLawfulJournal, IsWrongAt}
use Rattle.nfs_journal.specs.Journals.{IsFileOf}
use Rattle.nfs_journal.specs.declared.audit_error.AuditError.{AuditError}
use Rattle.nfs_journal.specs.declared.audit_error.AuditError.TheVariants as errors
use Rattle.nfs_server.specs.Device.{Device, IsCut, IsWritten}
use Rattle.nfs_program.specs.declared.fault.Fault.{Fault}
use Rattle.nfs_program.specs.declared.fault.Fault.TheVariants.{NotJournal, WrongAnswer, NoMemory}
use Rattle.nfs_state.specs.State.{History}

-- The bytes are the file of a lawful journal with so many entries; or of none; or of one whose entries before this
-- number are lawful, and that entry can't follow them. Where memory ran out nothing is told.
abbrev pub IsAudit : List ℕ → Result ℕ AuditError → Type 0
IsAudit bytes (Ok count) =
    (journal : History) × IsFileOf journal bytes × IsLawfulJournal journal
    × (count ≡ length journal.entries)
IsAudit bytes (Err errors.Format) = (journal : History) → IsFileOf journal bytes → ⊥
IsAudit bytes (Err (errors.WrongAnswer number)) =
    (journal : History) × IsFileOf journal bytes × IsWrongAt number journal
    × (IsLawfulJournal journal → ⊥)
IsAudit bytes (Err errors.Memory) = Unit {0}

-- the fault of a file of which this is told
abbrev pub fault_of_audit : AuditError → Fault
fault_of_audit errors.Format = NotJournal
fault_of_audit (errors.WrongAnswer number) = WrongAnswer number
fault_of_audit errors.Memory = NoMemory

-- the line that tells that a journal is lawful
abbrev pub lawful_line : ℕ → List ℕ
lawful_line count = codes "lawful: " ++ decimal count ++ codes " entries\n"

-- How the verdict is told, on a sink, which is taken as a device, with the number of its failed writes and the
-- program's exit status. A lawful journal: its line was written, whole, with 0; or with 1 a beginning of it that isn't
-- all, since a write failed, one. Any other: 1, and the sink is as it was.
abbrev pub IsTold : {W : Type 0} → Device W → (W → ℕ) → W → W → Result ℕ AuditError → ℕ → Type 0
IsTold device failures old new (Ok count) status =
    ((status ≡ 0) × IsWritten device old (lawful_line count) new
    × (failures new ≡ failures old))
    ⊎ ((status ≡ 1) × IsCut device old (lawful_line count) new
    × (failures new ≡ failures old + 1))
IsTold device failures old new (Err error) status = (status ≡ 1) × (new ≡ old)
