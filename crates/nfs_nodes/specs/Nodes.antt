-- What contracts see of the nodes that numbers have.
use Rattle.std.specs.Prelude.{◌≡◌, ℕ, List, Option, Some, if◌then◌else◌, nat_eq}
use Rattle.std.specs.Map.{lookup}

-- numbers with their nodes, and how many more can come without taking memory
pub record RoomyNodes : Type 0 where
  pub entries : List (ℕ × ℕ)
  pub room : ℕ

-- the node of the number, if there is one
abbrev pub node_of : ℕ → RoomyNodes → Option ℕ
node_of number nodes = lookup (nat_eq number) nodes.entries

-- the number has this node, if any, from now on, and each other number that which it had
abbrev pub HasAt : ℕ → Option ℕ → RoomyNodes → RoomyNodes → Type 0
HasAt number node old new =
    (n : ℕ) → node_of n new ≡ (if nat_eq number n then node else node_of n old)

-- each number has the node that it had, but this one with this node
abbrev pub Forgets : ℕ → ℕ → RoomyNodes → RoomyNodes → Type 0
Forgets number node old new = (n m : ℕ) → node_of n old ≡ Some m
    → ((n ≡ number) → (m ≡ node) → ⊥) → node_of n new ≡ Some m
