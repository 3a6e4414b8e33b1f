-- Runs that are kept in order: each is held, they have no byte in common, and no two of one mode touch.
use Rattle.std.specs.Prelude.{◌≡◌, ℕ, ◌+◌, ◌-◌, ◌^◌, ◌<◌, ◌≤◌, false, nat_lt, List, [], ◌∷◌, ◌++◌, filter, length, reverse, is_some, IsTrue, ⊤}
use Rattle.std.specs.List.{AllByRecursion}
use Rattle.nfs_ranges.specs.Modes.{is_same}
use Rattle.nfs_ranges.specs.declared.piece.Piece.{Piece}
use Rattle.nfs_ranges.specs.declared.runs.Runs.{Runs}

-- the second comes behind the first, and doesn't go on with it
abbrev pub IsBehind : Piece → Piece → Type 0
IsBehind p q =
    (p.range.last < q.range.first)
    × (p.range.last + 1 ≡ q.range.first → is_same p.mode q.mode ≡ false)

-- the bytes of the piece are held, and bytes of a file
abbrev pub IsHeld : Piece → Type 0
IsHeld p = IsTrue (is_some p.mode) × (p.range.last ≤ 2 ^ 64 - 1)

-- each piece is a run, and comes behind those before it
abbrev pub IsMerged : List Piece → Type 0
IsMerged [] = ⊤
IsMerged (p ∷ ps) = IsHeld p × AllByRecursion (IsBehind p) ps × IsMerged ps

-- how many pieces end before the byte
abbrev pub ended : ℕ → List Piece → ℕ
ended byte ps = length (filter (λ p. nat_lt p.range.last byte) ps)

-- the runs in order, of which two lists are kept
abbrev pub in_order : Runs → List Piece
in_order runs = runs.before.items ++ reverse runs.behind.items
