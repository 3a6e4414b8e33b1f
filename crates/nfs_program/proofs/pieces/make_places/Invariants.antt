use Rattle.std.proofs.Common.{◌≡◌, ℕ, ◌<◌, ◌≤◌, get_or, length}
use Rattle.std.specs.Prelude.{vec_capacity}
use Rattle.nfs_program.specs.Pieces.{HasPlace}
use Rattle.nfs_program.proofs.pieces.make_places.Given as goal
use Rattle.xdr.specs.Form.{u32}

-- there is a place for the count, and for each of the values so far
abbrev pub invariant-loop-number : goal.invariant-loop-number
invariant-loop-number g l =
    (l.number-end ≡ length (g.V.Values.values l.values))
    × HasPlace u32 (vec_capacity l.buffer) (length (g.V.Values.values l.values))
    × (vec_capacity l.fn.buffer ≤ vec_capacity l.buffer)
    × ((k : ℕ) (d : g.row.T.Denot) → k < l.number → HasPlace g.T.Wire.form (vec_capacity l.buffer) (get_or (g.V.Values.values l.values) k d))
