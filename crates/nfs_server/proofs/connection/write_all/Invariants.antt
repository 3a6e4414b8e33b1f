use Rattle.std.proofs.Common.{◌≡◌, ℕ, List, ◌++◌, length}
use Rattle.nfs_server.specs.Device.{IsWritten}
use Rattle.nfs_server.proofs.connection.write_all.Given as goal

-- the bytes before `rest` were written
abbrev pub invariant-loop-rest : goal.invariant-loop-rest
invariant-loop-rest g l = record {
  out : (front : List ℕ) × (l.bytes ≡ front ++ l.rest) × IsWritten g.D.Duplex.device l.fn.device front l.device;
  reads : g.D.Duplex.read_failures l.device ≡ g.D.Duplex.read_failures l.fn.device;
  writes : g.D.Duplex.write_failures l.device ≡ g.D.Duplex.write_failures l.fn.device;
}

abbrev pub decreases-loop-rest : goal.decreases-loop-rest
decreases-loop-rest g l = length l.rest
