-- The faults with which a connection or a tree ends a run, the exit status, and what becomes of the journal's file.
use Rattle.std.specs.Prelude.{◌≡◌, ◌⊎◌, ℕ, ◌+◌, Option, Some, None, Result, Ok, Err, zero, suc}
use Rattle.nfs_journal.specs.File.{file}
use Rattle.nfs_journal.specs.Journals.{file_of}
use Rattle.nfs_server.specs.Device.{Device, IsCut, IsWritten}
use Rattle.nfs_program.specs.declared.fault.Fault.{Fault}
use Rattle.nfs_program.specs.declared.fault.Fault.TheVariants.{TreeRefused, FileNotWritten, InputNotRead, OutputNotWritten, RecordTooLong, InputTooLong, EndsInsideRecord, NoMemory}
use Rattle.nfs_server.specs.declared.serve_error.ServeError.{ServeError}
use Rattle.nfs_server.specs.declared.serve_error.ServeError.TheVariants as errors
use Rattle.nfs_state.specs.State.{History}
use Rattle.nfs_tree.specs.declared.tree_error.TreeError.{TreeError}
use Rattle.nfs_tree.specs.Building.{number_of}

-- the fault, if there is one, with which a connection ended
abbrev pub fault_of : Result ℕ ServeError → Option Fault
fault_of (Ok zero) = None
fault_of (Ok (suc len)) = Some EndsInsideRecord
fault_of (Err errors.Read) = Some InputNotRead
fault_of (Err errors.Write) = Some OutputNotWritten
fault_of (Err errors.TooLong) = Some RecordTooLong
fault_of (Err errors.Memory) = Some NoMemory
fault_of (Err errors.TooMuch) = Some InputTooLong

-- the fault of a tree's file that doesn't describe a tree
abbrev pub fault_of_tree : TreeError → Fault
fault_of_tree refused = TreeRefused (number_of refused)

-- What became of a sink, which is taken as a device, with the number of its failed writes, where it was to be given the
-- file of a journal. No fault: the file was written, whole, and no write failed. Memory ran out: the sink is as it was.
-- It wasn't written: a write failed, one, after a beginning of the file that isn't all of it; or the journal doesn't
-- fit the form of a file, and the sink is as it was.
abbrev pub IsFiledBy : {J : Type 0} → Device J → (J → ℕ) → J → J → History → Option Fault → Type 0
IsFiledBy device failures old new journal None =
    IsWritten device old (file.encoding (file_of journal)) new × file.Fits (file_of journal)
    × (failures new ≡ failures old)
IsFiledBy device failures old new journal (Some NoMemory) = new ≡ old
IsFiledBy device failures old new journal (Some FileNotWritten) =
    (IsCut device old (file.encoding (file_of journal)) new × file.Fits (file_of journal)
    × (failures new ≡ failures old + 1))
    ⊎ ((file.Fits (file_of journal) → ⊥) × (new ≡ old))
IsFiledBy device failures old new journal (Some fault) = ⊥

-- What became of a sink, as `IsFiledBy` says. If no file of the journal was asked for, there is no sink, and no fault.
abbrev pub IsFiled : {J : Type 0} → Device J → (J → ℕ) → Option J → Option J → History
    → Option Fault → Type 0
IsFiled device failures None new journal filed = (new ≡ None) × (filed ≡ None)
IsFiled device failures (Some old) None journal filed = ⊥
IsFiled device failures (Some old) (Some new) journal filed =
    IsFiledBy device failures old new journal filed

-- the exit status of the program
abbrev pub status_of : Option Fault → ℕ
status_of None = 0
status_of (Some fault) = 1
