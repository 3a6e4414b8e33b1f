-- Devices with two ends, whose reads and writes have one common order.
use Rattle.std.specs.Prelude.{◌≡◌, ◌≢◌, ℕ, List, [], ◌∷◌, ◌++◌}
use Rattle.std.specs.List.{flat_map}

-- What the calls of a device do. A read gives bytes, or it fails; a read of no bytes is taken for the end of the input.
-- A write takes bytes, or it fails.
pub record Device (D : Type 0) : Type 1 where
  pub gives : D → List ℕ → D → Type 0
  pub fails_to_read : D → D → Type 0
  pub takes : D → List ℕ → D → Type 0
  pub fails_to_write : D → D → Type 0

-- A sink as a device: only writes change it.
abbrev pub device_of_sink : {W : Type 0} → (W → List ℕ → W → Type 0) → (W → W → Type 0) → Device W
device_of_sink takes fails = record {
  gives = λ old piece new. new ≡ old;
  fails_to_read = λ old new. new ≡ old;
  takes = takes;
  fails_to_write = fails;
}

-- writes took these parts, one after the other
abbrev pub AreTaken : {D : Type 0} → Device D → D → List (List ℕ) → D → Type 0
AreTaken device old [] new = new ≡ old
AreTaken {D = D} device old (part ∷ parts) new =
    (mid : D) × device.takes old part mid × AreTaken device mid parts new

-- exactly these bytes were written
abbrev pub IsWritten : {D : Type 0} → Device D → D → List ℕ → D → Type 0
IsWritten device old bytes new =
    (parts : List (List ℕ)) × (bytes ≡ flat_map (λ part. part) parts)
    × AreTaken device old parts new

-- a beginning of the bytes was written, but not all of them, because a write failed
abbrev pub IsCut : {D : Type 0} → Device D → D → List ℕ → D → Type 0
IsCut {D = D} device old bytes new =
    (front : List ℕ) × (back : List ℕ) × (mid : D)
    × (bytes ≡ front ++ back) × (back ≢ [])
    × IsWritten device old front mid × device.fails_to_write mid new
