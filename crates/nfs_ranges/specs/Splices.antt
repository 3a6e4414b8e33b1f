-- What a change makes of merged runs: a stretch of them gives way to at most three pieces.
use Rattle.std.specs.Prelude.{◌≡◌, ℕ, ◌+◌, ◌-◌, ◌<◌, ◌≤◌, true, List, ◌++◌, length, take, drop, Option, Some, None, is_some, IsTrue}
use Rattle.std.specs.List.{AllByRecursion, cons_option}
use Rattle.nfs_ranges.specs.Merged.{IsMerged}
use Rattle.nfs_ranges.specs.Modes.{is_same, modes_of, with_change}
use Rattle.nfs_ranges.specs.declared.piece.Piece.{Piece}
use Rattle.nfs_ranges.specs.declared.splice.Splice.{Splice}

-- the runs after the splice
abbrev pub spliced : Splice → List Piece → List Piece
spliced splice ps =
    take splice.start ps
    ++ cons_option splice.left (cons_option splice.run (cons_option splice.right (drop splice.stop ps)))

-- the splice of a change: what stands after it are merged runs, which give each byte the mode after the change
abbrev pub IsSpliceOf : Piece → List Piece → Splice → Type 0
IsSpliceOf change ps splice =
    (splice.start ≤ splice.stop) × (splice.stop ≤ length ps)
    × (modes_of (spliced splice ps) ≡ with_change change (modes_of ps))
    × IsMerged (spliced splice ps)

-- From this byte on up to the change all have the mode of the change, and no run of that mode goes on to it.
abbrev pub IsFirstWith : Piece → List Piece → ℕ → Type 0
IsFirstWith change ps first =
    (first ≤ change.range.first)
    × ((b : ℕ) → first ≤ b → b < change.range.first → modes_of ps b ≡ change.mode)
    × AllByRecursion (λ p. is_same p.mode change.mode ≡ true → p.range.first < first
    → p.range.last + 1 < first) ps

-- From the change on up to this byte all have the mode of the change, and no run of that mode goes on from it.
abbrev pub IsLastWith : Piece → List Piece → ℕ → Type 0
IsLastWith change ps last =
    (change.range.last ≤ last)
    × ((b : ℕ) → change.range.last < b → b ≤ last → modes_of ps b ≡ change.mode)
    × AllByRecursion (λ p. is_same p.mode change.mode ≡ true → last < p.range.last
    → last + 1 < p.range.first) ps

-- the part has the bytes from the first to the last, in the mode of the piece
abbrev pub IsPartOf : Piece → ℕ → ℕ → Piece → Type 0
IsPartOf p first last part =
    (part.range.first ≡ first) × (part.range.last ≡ last) × (part.mode ≡ p.mode)

-- the run of a change, which has the bytes from the first to the last, if the change makes one
abbrev pub IsRunOver : Piece → ℕ → ℕ → Option Piece → Type 0
IsRunOver change first last None = change.mode ≡ None
IsRunOver change first last (Some run) =
    IsTrue (is_some change.mode) × IsPartOf change first last run

-- what a run has before the end, of which it has bytes
abbrev pub IsRestBefore : ℕ → Option Piece → Option Piece → Type 0
IsRestBefore end None rest = rest ≡ None
IsRestBefore end (Some p) None = end ≤ p.range.first
IsRestBefore end (Some p) (Some rest) =
    (p.range.first < end) × IsPartOf p p.range.first (end - 1) rest

-- what a run has behind a byte
abbrev pub IsRestBehind : ℕ → Option Piece → Option Piece → Type 0
IsRestBehind byte None rest = rest ≡ None
IsRestBehind byte (Some p) None = byte < p.range.first
IsRestBehind byte (Some p) (Some rest) =
    (p.range.first ≤ byte) × IsPartOf p (byte + 1) p.range.last rest
