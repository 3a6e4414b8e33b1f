-- Errors of a connection.
use Rattle.std.specs.Prelude.{ℕ}
use Rattle.nfs_server.specs.declared.serve_error.ServeError.{ServeError}
use Rattle.nfs_server.specs.declared.serve_error.ServeError.TheVariants as errors

-- the number of an error
abbrev pub number_of : ServeError → ℕ
number_of errors.Read = 1
number_of errors.Write = 2
number_of errors.TooLong = 3
number_of errors.Memory = 4
number_of errors.TooMuch = 5
