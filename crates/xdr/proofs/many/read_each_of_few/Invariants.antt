use Rattle.std.proofs.Common.{◌≡◌, ◌-◌}
use Rattle.xdr.specs.Reading.{each_at}
use Rattle.xdr.proofs.ReadingLists.{and_then}
use Rattle.xdr.proofs.many.read_each_of_few.Given as goal

-- the values read so far, followed by those read from the remaining bytes, are all the values
abbrev pub invariant-loop : goal.invariant-loop
invariant-loop g l = and_then l.values.items (each_at g.T.Wire.form.at (l.count - l.counter) l.rest) ≡ each_at g.T.Wire.form.at l.count l.bytes
