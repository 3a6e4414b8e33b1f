use Rattle.std.proofs.Common.{replicate}
use Rattle.nfs_owners.specs.declared.slots.TheConstants.{SLOTS}
use Rattle.nfs_owners.proofs.ClientLists.{records_empty}
use Rattle.nfs_owners.proofs.clients.Clients.new.Goals as goal

pub invariant_of-result : goal.invariant_of-result
invariant_of-result c = rw c.new.ensures (rw c.new-2.ensures records_empty)

pub returns : goal.returns
returns c = λ i. record { confirmed = c.new.ensures i; unconfirmed = c.new-2.ensures i; given = replicate SLOTS 0; last_confirm = 0 }
