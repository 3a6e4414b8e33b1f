-- The shortage that an error of the clients' records or the owners leads to.
use Rattle.nfs_owners.specs.declared.owners_error.OwnersError.{OwnersError}
use Rattle.nfs_owners.specs.declared.owners_error.OwnersError.TheVariants as errors
use Rattle.nfs_state.specs.declared.shortage.Shortage.{Shortage}
use Rattle.nfs_state.specs.declared.shortage.Shortage.TheVariants.{Limit, Memory}

-- the shortage that the error leads to
abbrev pub shortage_of : OwnersError → Shortage
shortage_of errors.Full = Limit
shortage_of errors.Memory = Memory
