use Rattle.std.proofs.Common.{◌≡◌, ℕ, ◌<◌, ◌≤◌, ◌++◌, take, get_or}
use Rattle.std.specs.Prelude.{vec_capacity}
use Rattle.std.specs.List.{flat_map}
use Rattle.xdr.proofs.many.write_each.Given as goal

-- the values so far are written at the end of the output, and they fit their form
abbrev pub invariant-loop-value : goal.invariant-loop-value
invariant-loop-value g l =
    (l.out.items ≡ l.fn.out.items ++ flat_map g.T.Wire.form.encoding (take l.value-index l.values))
    × (vec_capacity l.fn.out ≤ vec_capacity l.out)
    × ((k : ℕ) (d : g.row.T.Denot) → k < l.value-index → g.T.Wire.form.Fits (get_or l.values k d))
