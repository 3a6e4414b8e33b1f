use Rattle.std.proofs.Common.{◌≡◌, ◌+◌, ◌^◌, ◌≤◌, false, length}
use Rattle.nfs_rpc.specs.Keeping.{TakesMore, Begins, first_or, messages_of}
use Rattle.nfs_rpc.proofs.Finding.{AreFoundSoFar}
use Rattle.nfs_rpc.proofs.unfinished.take_all.Given as goal

-- The piece up to `rest` has been taken.
abbrev pub invariant-loop-rest : goal.invariant-loop-rest
invariant-loop-rest l = record {
  at_place : TakesMore l.bodies.items l.first.place;
  goes : l.first.is_too_long ≡ false;
  room : l.first.count + length l.rest ≤ 2 ^ 40;
  begins : Begins l.initial.bodies.items (first_or (messages_of l.found.items) l.bodies.items);
  found : AreFoundSoFar l.initial.bodies.items l.fn.from l.piece l.rest (messages_of l.found.items) l.bodies.items l.first;
}

abbrev pub decreases-loop-rest : goal.decreases-loop-rest
decreases-loop-rest l = length l.rest
