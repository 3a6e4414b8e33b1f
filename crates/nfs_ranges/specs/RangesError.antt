-- Errors of a change.
use Rattle.std.specs.Prelude.{ℕ}
use Rattle.nfs_ranges.specs.declared.ranges_error.RangesError.{RangesError}
use Rattle.nfs_ranges.specs.declared.ranges_error.RangesError.TheVariants as errors

-- the number of an error
abbrev pub number_of : RangesError → ℕ
number_of errors.Full = 1
number_of errors.Memory = 2
