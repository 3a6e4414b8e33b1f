-- Errors of a stream of records.
use Rattle.std.specs.Prelude.{ℕ}
use Rattle.nfs_rpc.specs.declared.records.RecordError.{RecordError}
use Rattle.nfs_rpc.specs.declared.records.RecordError.TheVariants as errors

-- the number of an error
abbrev pub number_of : RecordError → ℕ
number_of errors.TooLong = 1
number_of errors.Memory = 2
