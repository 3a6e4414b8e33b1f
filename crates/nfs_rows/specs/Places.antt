-- How rows are kept.
use Rattle.std.specs.Prelude.{◌≡◌, ◌≢◌, ◌⊎◌, ℕ, ◌+◌, ◌*◌, zero, suc, ◌<◌, ◌≤◌, Bool, ◌&&◌, false, true, not, List, [], ◌∷◌, Option, Some, None, nat_le, filter, filter_map, IsSome, length, map, slice_index_or, vec_capacity, vec_len, nat_eq, ⊤}
use Rattle.std.specs.Global.{Vec}
use Rattle.std.specs.Option.{option_map, option_map_or}
use Rattle.std.specs.List.{AllByRecursion}
use Rattle.slab.specs.Slab.{Slab, slab_len}
use Rattle.slab.specs.Slab as slabs
use Rattle.indexmap.specs.IndexMap.{IndexMap, get, spare}
use Rattle.nfs_rows.specs.Rows.{Row, StandSo}
use Rattle.nfs_rows.specs.declared.place.Place.{Place}

-- the places that aren't marks
abbrev pub kept : List Place → List Place
kept places = filter (λ p. not p.gone) places

abbrev pub NumbersRise : List Place → Type 0
NumbersRise places = StandSo (λ p q. p.number < q.number) places

-- the place's number isn't below this one
abbrev pub is_from : ℕ → Place → Bool
is_from number p = nat_le number p.number

abbrev pub KeysDiffer : List Place → Type 0
KeysDiffer places = StandSo (λ p q. p.key ≢ q.key) places

-- the last place, if there is one, isn't a mark
abbrev pub EndsKept : List Place → Type 0
EndsKept [] = ⊤
EndsKept (p ∷ []) = p.gone ≡ false
EndsKept (p ∷ q ∷ places) = EndsKept (q ∷ places)

-- the row with the number is at this place, or at none
abbrev pub IsPlaceOf : ℕ → List Place → Option ℕ → Type 0
IsPlaceOf number places None = AllByRecursion (λ p. p.number ≢ number) (kept places)
IsPlaceOf number places (Some at) =
    (at < length places)
    × ((d : Place) → (slice_index_or places at d).number ≡ number)
    × ((d : Place) → (slice_index_or places at d).gone ≡ false)

-- a place is there, and isn't a mark
abbrev pub HasRowAt : ℕ → List Place → Type 0
HasRowAt at places =
    (at < length places) × ((d : Place) → (slice_index_or places at d).gone ≡ false)

-- the number at a place
abbrev pub number_at : ℕ → List Place → ℕ
number_at at places = slice_index_or (map (λ p. p.number) places) at 0

-- the key at a place
abbrev pub key_at : ℕ → List Place → ℕ
key_at at places = slice_index_or (map (λ p. p.key) places) at 0

-- the places, with a mark at this one
abbrev pub marked : ℕ → List Place → List Place
marked at [] = []
marked zero (p ∷ places) = record p { gone = true } ∷ places
marked (suc at) (p ∷ places) = p ∷ marked at places

module _ {V : Type 0} where
  -- a place with its row
  abbrev pub row_with : Place → V → Row V
  row_with p v = record { number = p.number; hash = p.hash; client = p.client; value = v }

  -- the row to which the place leads
  abbrev pub row_of : Slab V → Place → Option (Row V)
  row_of slab p = option_map (row_with p) (slabs.get slab p.key)

  -- the rows to which these places lead, in their order
  abbrev pub rows_of : Slab V → List Place → List (Row V)
  rows_of slab places = filter_map (row_of slab) places

  abbrev pub rows_at : Slab V → List Place → List (Row V)
  rows_at slab places = rows_of slab (kept places)

  -- at most half of the places are marks
  abbrev pub AreFew : Slab V → Vec Place → Type 0
  AreFew slab places = vec_len places ≤ 2 * slab_len slab

  -- the slab has a row at the place's key
  abbrev pub HasRow : Slab V → Place → Type 0
  HasRow slab p = IsSome (slabs.get slab p.key)

  -- the place isn't a mark, and leads to a row that passes the test
  abbrev pub has_row : (Row V → Bool) → Slab V → Place → Bool
  has_row test slab p = not p.gone && option_map_or test (row_of slab p) false

-- a place has this hash and this number
abbrev pub Leads : List Place → ℕ → ℕ → Type 0
Leads [] hash number = ⊥
Leads (p ∷ places) hash number =
    ((p.hash ≡ hash) × (p.number ≡ number)) ⊎ Leads places hash number

module _ {S : Type 0} where
  -- the index has each place's number at its hash, and nothing else
  pub record IsIndexed (index : IndexMap ℕ ℕ S) (places : List Place) : Type 0 where
    pub leads : AllByRecursion (λ p. get nat_eq index p.hash ≡ Some p.number) places
    pub own : (hash number : ℕ) → get nat_eq index hash ≡ Some number → Leads places hash number

  pub record AreKept {V : Type 0} (slab : Slab V) (places : List Place) (index : IndexMap ℕ ℕ S) (clashed : Bool)
      : Type 0 where
    pub rise : NumbersRise places
    pub there : AllByRecursion (HasRow slab) (kept places)
    pub apart : KeysDiffer (kept places)
    pub all : slab_len slab ≡ length (kept places)
    pub indexed : clashed ≡ false → IsIndexed index (kept places)

  -- so many rows more take no memory
  pub record HasRoom {V : Type 0} (slab : Slab V) (places : Vec Place) (index : IndexMap ℕ ℕ S) (room : ℕ)
      : Type 0 where
    pub in_slab : slab_len slab + room ≤ slab.capacity
    pub in_places : vec_len places + room ≤ vec_capacity places
    pub in_index : room ≤ spare index
