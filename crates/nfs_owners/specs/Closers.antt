-- Which owner's kept request closed a state.
use Rattle.std.specs.Prelude.{◌≡◌, ℕ, ◌+◌, ◌==◌, ⊤, false, List, Option, Some, None, if◌then◌else◌, find, nat_eq, option_map}
use Rattle.indexmap.specs.IndexMap.{get, index_map_len, spare}
use Rattle.nfs_rows.specs.Rows.{Row, is_numbered, value_in}
use Rattle.nfs_owners.specs.declared.closers.Closers.{Closers}
use Rattle.nfs_owners.specs.declared.kept.KeptSummary.{KeptSummary}
use Rattle.nfs_owners.specs.declared.owner.Owner.{Owner}

-- the number of the state that the kept request closed, if it closed one
abbrev pub closed_by : KeptSummary → Option ℕ
closed_by kept = option_map (λ id. id.number) kept.closed

abbrev pub closed_of : Option Owner → Option ℕ
closed_of None = None
closed_of (Some o) = closed_by o.state.kept

-- the state that was closed by the owner in the row with the number
abbrev pub closed_at : List (Row Owner) → ℕ → Option ℕ
closed_at rows number = closed_of (value_in (find (is_numbered number) rows))

-- no row closed a state
abbrev pub nothing : ℕ → Option ℕ
nothing row = None

-- the row closed this, and each other one what it did
abbrev pub with_at : ℕ → Option ℕ → (ℕ → Option ℕ) → ℕ → Option ℕ
with_at row closed f other = if other == row then closed else f other

-- the index gives for a state the row that closed it, and nothing else
pub record IsInverse (index : ℕ → Option ℕ) (closed : ℕ → Option ℕ) : Type 0 where
  pub leads : (state row : ℕ) → closed row ≡ Some state → index state ≡ Some row
  pub own : (state row : ℕ) → index state ≡ Some row → closed row ≡ Some state

-- no row is known to have closed the state
abbrev pub IsOpenStill : Option ℕ → Closers → Type 0
IsOpenStill None closers = ⊤
IsOpenStill (Some state) closers = get nat_eq closers.index state ≡ None

-- how many states the index has room for, with those that are in it
abbrev pub capacity_of : Closers → ℕ
capacity_of closers = index_map_len closers.index + spare closers.index

abbrev pub AreClosers : Closers → (ℕ → Option ℕ) → Type 0
AreClosers closers closed =
    closers.partial ≡ false → IsInverse (get nat_eq closers.index) closed
