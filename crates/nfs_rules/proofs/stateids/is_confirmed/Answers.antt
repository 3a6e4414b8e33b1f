use Rattle.std.proofs.Common.{refl, arith}
use Rattle.nfs_rules.proofs.Sequencing.{confirmed_known}
use Rattle.nfs_owners.specs.Owner.{owner_of}
use Rattle.nfs_owners.specs.StateOwner.{open_owner}
use Rattle.nfs_rules.proofs.stateids.is_confirmed.Goals as goal

pub returns : goal.returns
returns c =
    let stored = c.args.tables.now.owners.owners in
    let name = open_owner c.args.owner.now in
    grind (arith, confirmed_known name stored (owner_of name stored) refl, c.of_open.ensures, c.known.ensures, c.eq.ensures)
