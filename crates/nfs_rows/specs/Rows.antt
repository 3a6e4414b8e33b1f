-- What contracts see of rows.
use Rattle.std.specs.Prelude.{◌≡◌, ℕ, ◌<◌, ◌==◌, Bool, ◌&&◌, nat_le, not, if◌then◌else◌, List, [], ◌∷◌, filter, map, Option, refl, ⊤}
use Rattle.std.specs.Option.{option_map}
use Rattle.std.specs.Borrow.{Bor}
use Rattle.std.specs.Fn.{Shared}
use Rattle.std.specs.List.{AllByRecursion}
use Rattle.std.specs.Coded.{Coded, code_by, coded×, coded_ℕ, coded_list}

-- a row: its number, the hash of its name, its client, and its value
pub record Row (V : Type 0) : Type 0 where
  pub number : ℕ
  pub hash : ℕ
  pub client : ℕ
  pub value : V

-- the rows in the order in which they came, and how many more can come without taking memory
pub record RoomyRows (V : Type 0) : Type 0 where
  pub rows : List (Row V)
  pub room : ℕ

abbrev pub code_of_row : {V : Type 0} → Coded V → Coded (Row V)
code_of_row {V} code =
    code_by
    (ℕ × (ℕ × (ℕ × V)))
    (coded× coded_ℕ (coded× coded_ℕ (coded× coded_ℕ code)))
    (λ r. (r.number, (r.hash, (r.client, r.value))))
    (λ p. record { number = p.0; hash = p.1.0; client = p.1.1.0; value = p.1.1.1 })
    (λ _. refl)

abbrev pub code_of_rows : {V : Type 0} → Coded V → Coded (RoomyRows V)
code_of_rows {V} code =
    code_by
    (List (Row V) × ℕ)
    (coded× (coded_list (code_of_row code)) coded_ℕ)
    (λ r. (r.rows, r.room))
    (λ p. record { rows = p.0; room = p.1 })
    (λ _. refl)

-- each stands so to all behind it
abbrev pub StandSo : {X : Type 0} → (X → X → Type 0) → List X → Type 0
StandSo R [] = ⊤
StandSo R (x ∷ xs) = AllByRecursion (R x) xs × StandSo R xs

module _ {V : Type 0} where
  -- each number is above those before it
  abbrev pub StandInOrder : List (Row V) → Type 0
  StandInOrder rows = StandSo (λ r s. r.number < s.number) rows

  abbrev pub is_numbered : ℕ → Row V → Bool
  is_numbered number r = r.number == number

  -- the row's number isn't below this one
  abbrev pub is_from : ℕ → Row V → Bool
  is_from number r = nat_le number r.number

  -- the row is of the client, and its value passes the test
  abbrev pub is_of_client : ℕ → (V → Bool) → Row V → Bool
  is_of_client client test r = r.client == client && test r.value

  -- the row has the hash, and its value passes the test
  abbrev pub is_named : ℕ → (V → Bool) → Row V → Bool
  is_named hash test r = r.hash == hash && test r.value

  -- the value of a row that was found
  abbrev pub value_in : Option (Row V) → Option V
  value_in found = option_map (λ r. r.value) found

  -- the row's number and its value
  abbrev pub pair_of : Row V → ℕ × V
  pair_of r = (r.number, r.value)

  abbrev pub pair_in : Option (Row V) → Option (ℕ × V)
  pair_in found = option_map pair_of found

  -- a number with a value that is lent
  abbrev pub pair_seen : Option (ℕ × Bor V) → Option (ℕ × V)
  pair_seen found = option_map (λ f. (f.0, f.1.now)) found

  -- whatever a closure is called at, it answers what the test gives
  abbrev pub AnswersAs : {F : Type 0} → Shared F (Bor V × Unit {0}) Bool → F → (V → Bool) → Type 0
  AnswersAs g f test = (shown : Bor V) (answer : Bool) → g.post f (shown, tt) answer
      → answer ≡ test shown.now

  -- all numbers are below this one
  abbrev pub IsAbove : ℕ → List (Row V) → Type 0
  IsAbove number rows = AllByRecursion (λ r. r.number < number) rows

  -- the rows, with this value in the one with the number
  abbrev pub with_value : ℕ → V → List (Row V) → List (Row V)
  with_value number value rows =
      map (λ r. if is_numbered number r then record r { value = value } else r) rows

  -- the rows that fail the test
  abbrev pub without : (Row V → Bool) → List (Row V) → List (Row V)
  without test rows = filter (λ r. not (test r)) rows
