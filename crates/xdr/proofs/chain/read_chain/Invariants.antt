use Rattle.std.proofs.Common.{◌≡◌, ◌-◌, length}
use Rattle.xdr.specs.Reading.{chain_below}
use Rattle.xdr.proofs.ReadingLists.{and_then}
use Rattle.xdr.proofs.chain.read_chain.Given as goal

-- the values read so far, followed by those read from the remaining bytes, are all the values
abbrev pub invariant-loop : goal.invariant-loop
invariant-loop g l = and_then l.values.items (chain_below g.T.Wire.form.at (length l.bytes - l.counter) l.rest) ≡ chain_below g.T.Wire.form.at (length l.bytes) l.bytes
