-- The device of a connection over TCP. Which bytes it carries can't be told, nor whether its input was ended by the
-- other side or by the end of the run.
use Rattle.std.specs.Prelude.{◌≡◌, ℕ, ◌+◌, IsSome}
use Rattle.nfs_threads.specs.declared.socket.Socket.{Socket}
use Rattle.nfs_server.specs.Device.{Device}

-- the socket stays one of its listener, and once it has a connection it keeps that
abbrev pub KeepsConnection : {R : Type 0} → Socket R → Socket R → Type 0
KeepsConnection old new =
    (new.listener ≡ old.listener) × (IsSome old.stream → new.stream ≡ old.stream)

-- the counts of failed reads and of failed writes
abbrev pub HasFailed : {R : Type 0} → ℕ → ℕ → Socket R → Socket R → Type 0
HasFailed reads writes old new =
    (new.read_failures ≡ old.read_failures + reads)
    × (new.write_failures ≡ old.write_failures + writes)

-- After a read that didn't fail there is a connection, also where it gave no bytes. A write takes bytes only where
-- there is one.
abbrev pub socket_device : {R : Type 0} → Device (Socket R)
socket_device = record {
  gives = λ old piece new. KeepsConnection old new × IsSome new.stream × HasFailed 0 0 old new;
  fails_to_read = λ old new. KeepsConnection old new × HasFailed 1 0 old new;
  takes = λ old part new. IsSome old.stream × (new ≡ old);
  fails_to_write = λ old new. new ≡ record old { write_failures = old.write_failures + 1 };
}
