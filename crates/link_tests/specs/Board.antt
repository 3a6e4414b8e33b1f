-- Devices of the tests.
use Rattle.std.specs.Prelude.{◌≡◌, ℕ}
use Rattle.nfs_server.specs.Device.{Device}

-- the calls of a device whose bytes nobody tells: it keeps its place
abbrev pub device_in_place : {D : Type 0} → (D → ℕ) → Device D
device_in_place place_of = record {
  gives = λ old piece new. place_of new ≡ place_of old;
  fails_to_read = λ old new. place_of new ≡ place_of old;
  takes = λ old part new. place_of new ≡ place_of old;
  fails_to_write = λ old new. place_of new ≡ place_of old;
}
