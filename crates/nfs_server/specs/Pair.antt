-- A borrowed source and a borrowed sink as one device.
use Rattle.std.specs.Prelude.{◌≡◌, ℕ, List}
use Rattle.nfs_server.specs.declared.duplex.Pair.{Pair}
use Rattle.nfs_server.specs.Device.{Device}
use Rattle.nfs_server.specs.declared.sides.Sides.{Sides}
use Rattle.nfs_server.specs.Sides.{device_of}

-- the states of the source and the sink that a pair borrows
abbrev pub sides_of : {R W : Type 0} → Pair R W → Sides R W
sides_of pair = record { source = pair.source.now; sink = pair.sink.now }

-- the pair still borrows the same source and the same sink
abbrev pub BorrowsTheSame : {R W : Type 0} → Pair R W → Pair R W → Type 0
BorrowsTheSame old new =
    (new.source.ghost_name ≡ old.source.ghost_name) × (new.sink.ghost_name ≡ old.sink.ghost_name)

-- A pair's calls are those of its source and its sink, and it keeps borrowing the same ones.
abbrev pub device_of_pair : {R W : Type 0} → (R → List ℕ → R → Type 0) → (R → R → Type 0)
    → (W → List ℕ → W → Type 0) → (W → W → Type 0) → Device (Pair R W)
device_of_pair gives fails_to_read takes fails_to_write =
    let sides = device_of gives fails_to_read takes fails_to_write in
    record {
      gives =
          λ old piece new. BorrowsTheSame old new × sides.gives (sides_of old) piece (sides_of new);
      fails_to_read =
          λ old new. BorrowsTheSame old new × sides.fails_to_read (sides_of old) (sides_of new);
      takes =
          λ old part new. BorrowsTheSame old new × sides.takes (sides_of old) part (sides_of new);
      fails_to_write =
          λ old new. BorrowsTheSame old new × sides.fails_to_write (sides_of old) (sides_of new);
    }
