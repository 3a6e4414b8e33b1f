use Rattle.std.proofs.Common.{◌≡◌, drop}
use Rattle.nfs_program.specs.Faults.{first_fault_of}
use Rattle.nfs_program.proofs.faults.first_fault.Given as goal

abbrev pub invariant-loop-ended : goal.invariant-loop-ended
invariant-loop-ended l = record {
  rest : first_fault_of (drop l.ended-index l.connections) ≡ first_fault_of l.connections;
}
