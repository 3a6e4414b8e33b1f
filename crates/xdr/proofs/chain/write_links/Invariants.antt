use Rattle.std.proofs.Common.{◌≡◌, ℕ, ◌<◌, ◌≤◌, ◌++◌, take, get_or}
use Rattle.std.specs.Prelude.{vec_capacity}
use Rattle.std.specs.List.{flat_map}
use Rattle.xdr.specs.Writing.{written_link}
use Rattle.xdr.proofs.chain.write_links.Given as goal

-- the values so far are written at the end of the output, each behind a TRUE, and they fit their form
abbrev pub invariant-loop-value : goal.invariant-loop-value
invariant-loop-value g l =
    (l.out.items ≡ l.fn.out.items ++ flat_map (written_link g.T.Wire.form.encoding) (take l.value-index l.values))
    × (vec_capacity l.fn.out ≤ vec_capacity l.out)
    × ((k : ℕ) (d : g.row.T.Denot) → k < l.value-index → g.T.Wire.form.Fits (get_or l.values k d))
