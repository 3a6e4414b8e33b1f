use Rattle.std.proofs.Common.{arith}
use Rattle.std.proofs.lemmas.List.{length-map}
use Rattle.nfs_owners.specs.declared.owner.Owner.{Owner}
use Rattle.nfs_owners.proofs.owners.Owners.reserve.Goals as goal

pub reserve-requires : goal.reserve-requires
reserve-requires c = omega (arith, c.self.invariant.0, length-map {B = Owner} c.self.inside.owners.rows (λ r. r.value))
