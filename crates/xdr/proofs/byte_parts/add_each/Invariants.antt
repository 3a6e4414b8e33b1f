use Rattle.std.proofs.Common.{◌≡◌, ◌≤◌, ◌++◌, drop}
use Rattle.std.specs.Prelude.{vec_capacity}
use Rattle.std.specs.List.{concat}
use Rattle.xdr.proofs.byte_parts.add_each.Given as goal

-- with those that are left behind them, the bytes are as they are to be
abbrev pub invariant-loop-part : goal.invariant-loop-part
invariant-loop-part l = record {
  items : l.out.items ++ concat (drop l.part-index l.parts) ≡ l.fn.out.items ++ concat l.parts;
  capacity : vec_capacity l.fn.out ≤ vec_capacity l.out;
}
