-- Errors of a change of clients, owners or numbers.
use Rattle.std.specs.Prelude.{ℕ}
use Rattle.nfs_owners.specs.declared.owners_error.OwnersError.{OwnersError}
use Rattle.nfs_owners.specs.declared.owners_error.OwnersError.TheVariants as errors

-- the number of an error
abbrev pub number_of : OwnersError → ℕ
number_of errors.Full = 1
number_of errors.Memory = 2
