-- Errors of a core.
use Rattle.std.specs.Prelude.{ℕ}
use Rattle.nfs_core.specs.declared.core_error.CoreError.{CoreError}
use Rattle.nfs_core.specs.declared.core_error.CoreError.TheVariants as errors
use Rattle.nfs_rules.specs.declared.entries.expire.NotExpired.{NotExpired}
use Rattle.nfs_rules.specs.declared.entries.expire.NotExpired.TheVariants as reasons
use Rattle.nfs_rules.specs.declared.entries.forget.NotForgotten.{NotForgotten}
use Rattle.nfs_rules.specs.declared.entries.forget.NotForgotten.TheVariants as not_forgotten

-- the number of an error
abbrev pub number_of : CoreError → ℕ
number_of errors.NotLive = 1
number_of errors.NotDue = 2
number_of errors.Full = 3
number_of errors.Memory = 4

-- a client that isn't removed for this reason
abbrev pub error_of : NotExpired → CoreError
error_of reasons.NotLive = errors.NotLive
error_of reasons.NotDue = errors.NotDue

-- an owner that isn't forgotten for this reason
abbrev pub error_of_forget : NotForgotten → CoreError
error_of_forget not_forgotten.NotDue = errors.NotDue
error_of_forget not_forgotten.Memory = errors.Memory
