-- Lists of numbered things, one for each node, whose nodes are found by the numbers.
use Rattle.std.specs.Prelude.{◌≡◌, ℕ, suc, ◌<◌, ◌≤◌, ◌+◌, ◌^◌, List, [], ◌∷◌, Option, None, Some, length, slice_get, ⊤}
use Rattle.std.specs.List.{AllByRecursion}
use Rattle.nfs_nodes.specs.Nodes.{RoomyNodes, node_of}

module _ {X : Type 0} (number : X → ℕ) where
  -- each number is above those before it, none is below the first, and each has four bytes
  abbrev pub Rise : ℕ → List X → Type 0
  Rise from [] = from ≤ 2 ^ 32
  Rise from (x ∷ xs) = (from ≤ number x) × Rise (suc (number x)) xs

  -- the things of this node are found there, and their numbers rise
  abbrev pub StandAt : RoomyNodes → ℕ → List X → Type 0
  StandAt nodes node xs =
      AllByRecursion (λ x. node_of (number x) nodes ≡ Some node) xs × Rise 0 xs

  -- the things of each node are found there, and their numbers rise, from this node on
  abbrev pub StandFrom : RoomyNodes → ℕ → List (List X) → Type 0
  StandFrom nodes node [] = ⊤
  StandFrom nodes node (xs ∷ lists) = StandAt nodes node xs × StandFrom nodes (node + 1) lists

-- the list of a node; the empty one where there is no such node
abbrev pub list_or_none : {X : Type 0} → Option (List X) → List X
list_or_none None = []
list_or_none (Some xs) = xs

abbrev pub list_of : {X : Type 0} → ℕ → List (List X) → List X
list_of node lists = list_or_none (slice_get lists node)

-- how many things the lists have
abbrev pub total : {X : Type 0} → List (List X) → ℕ
total [] = 0
total (xs ∷ lists) = length xs + total lists

-- The things of each node are found there; they are so many.
pub record AreFound {X : Type 0} (number : X → ℕ) (nodes : RoomyNodes) (count : ℕ) (lists : List (List X))
    : Type 0 where
  pub stand : StandFrom number nodes 0 lists
  pub counted : count ≡ total lists
  pub few : length lists < 2 ^ 32
