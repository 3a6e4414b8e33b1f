-- A source and a sink that are separate from each other, as one device.
use Rattle.std.specs.Prelude.{◌≡◌, ℕ, List}
use Rattle.nfs_server.specs.declared.sides.Sides.{Sides}
use Rattle.nfs_server.specs.Device.{Device}

-- A read doesn't change the sink, and a write doesn't change the source.
abbrev pub device_of : {R W : Type 0} → (R → List ℕ → R → Type 0) → (R → R → Type 0)
    → (W → List ℕ → W → Type 0) → (W → W → Type 0) → Device (Sides R W)
device_of gives fails_to_read takes fails_to_write = record {
  gives = λ old piece new. gives old.source piece new.source × (new.sink ≡ old.sink);
  fails_to_read = λ old new. fails_to_read old.source new.source × (new.sink ≡ old.sink);
  takes = λ old part new. takes old.sink part new.sink × (new.source ≡ old.source);
  fails_to_write = λ old new. fails_to_write old.sink new.sink × (new.source ≡ old.source);
}

abbrev pub sides : {R W : Type 0} → R → W → Sides R W
sides source sink = record { source = source; sink = sink }
