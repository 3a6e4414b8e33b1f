use Rattle.std.proofs.Common.{◌≡◌, drop}
use Rattle.nfs_program.specs.Faults.{first_fault_of_shifts}
use Rattle.nfs_program.proofs.faults.first_fault_of_shifts.Given as goal

abbrev pub invariant-loop-shift : goal.invariant-loop-shift
invariant-loop-shift l = record {
  rest : first_fault_of_shifts (drop l.shift-index l.shifts) ≡ first_fault_of_shifts l.shifts;
}
