-- The fault of a run that served connections.
use Rattle.std.specs.Prelude.{Bool, if◌then◌else◌, List, [], ◌∷◌, Option, Some, None, is_err}
use Rattle.std.specs.Option.{option_or}
use Rattle.std.specs.List.{list_all}
use Rattle.nfs_threads.specs.declared.connection_end.ConnectionEnd.{ConnectionEnd}
use Rattle.nfs_threads.specs.declared.shift.Shift.{Shift}
use Rattle.nfs_program.specs.Once.{fault_of}
use Rattle.nfs_program.specs.declared.fault.Fault.{Fault}
use Rattle.nfs_program.specs.declared.fault.Fault.TheVariants.{NoMemory}

-- The fault of the first connection in the list that ended with one.
abbrev pub first_fault_of : List ConnectionEnd → Option Fault
first_fault_of [] = None
first_fault_of (ended ∷ rest) = option_or (fault_of ended.result) (first_fault_of rest)

-- Whether the shift ended as memory or a thread was refused.
abbrev pub is_refused : Shift → Bool
is_refused shift = is_err shift.end

-- The fault of a shift: that of its first connection that ended with one; or else that memory or a thread was refused.
abbrev pub fault_of_shift : Shift → Option Fault
fault_of_shift shift =
    option_or (first_fault_of shift.connections.items) (if is_refused shift then Some NoMemory else None)

-- The fault of the first worker's shift that has one. The list goes by the seats of the workers, which is neither the
-- order in which connections came nor that in which they ended.
abbrev pub first_fault_of_shifts : List Shift → Option Fault
first_fault_of_shifts [] = None
first_fault_of_shifts (shift ∷ rest) =
    option_or (fault_of_shift shift) (first_fault_of_shifts rest)

-- The fault of a run: that nobody swept or nobody called clients back, as no thread could be made for that; or else the
-- first of a worker; or else that of the journal's file. The first of these comes before all that a peer can bring
-- about, so no peer can hide it.
abbrev pub fault_of_run : Bool → List Shift → Option Fault → Option Fault
fault_of_run has_helpers shifts filed =
    if has_helpers then option_or (first_fault_of_shifts shifts) filed else Some NoMemory

-- Whether memory or a thread was refused for each of the workers, so that none served.
abbrev pub is_each_refused : List Shift → Bool
is_each_refused = list_all is_refused

-- The fault of a run that goes on, in which no peer has a part: that memory or a thread was refused for each worker,
-- for the sweeps or for callbacks; or else that of the journal's file.
abbrev pub fault_of_ongoing_run : Bool → List Shift → Option Fault → Option Fault
fault_of_ongoing_run has_helpers shifts filed =
    if has_helpers then (if is_each_refused shifts then Some NoMemory else filed) else Some NoMemory
