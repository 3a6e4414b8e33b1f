-- Bytes that lie in parts.
use Rattle.std.specs.Prelude.{◌≡◌, ◌++◌, ℕ, List, drop, length, take}
use Rattle.std.specs.List.{concat}

-- the bytes of a first part, and of those behind it
abbrev pub joined : List ℕ → List (List ℕ) → List ℕ
joined first rest = first ++ concat rest

-- these bytes stand in all of them from this place on
abbrev pub StandAt : ℕ → List ℕ → List ℕ → Type 0
StandAt from bytes all = bytes ≡ take (length bytes) (drop from all)
