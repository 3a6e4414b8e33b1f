-- Errors of reading and writing.
use Rattle.std.specs.Prelude.{ℕ}
use Rattle.xdr.specs.declared.wire_error.WireError.{WireError}
use Rattle.xdr.specs.declared.wire_error.WireError.TheVariants as errors

-- the number of an error
abbrev pub number_of : WireError → ℕ
number_of errors.Short = 1
number_of errors.TooLong = 2
number_of errors.Memory = 3
