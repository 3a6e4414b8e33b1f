use Rattle.std.proofs.Common.{◌≡◌, ◌+◌, length, take}
use Rattle.std.specs.List.{flat_map}
use Rattle.xdr.specs.Writing.{written_link}
use Rattle.xdr.proofs.chain.chain_len.Given as goal

-- the bytes of the values so far, each with its TRUE, and those of the FALSE
abbrev pub invariant-loop-value : goal.invariant-loop-value
invariant-loop-value g l = l.len ≡ 4 + length (flat_map (written_link g.T.Wire.form.encoding) (take l.value-index l.values))
