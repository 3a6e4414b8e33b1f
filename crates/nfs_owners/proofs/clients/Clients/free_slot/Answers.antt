use Rattle.std.proofs.Common.{◌≡◌, false, true, rules}
use Rattle.std.proofs.lemmas.Iterator.{first_from_Range}
use Rattle.nfs_owners.specs.Choice.{can_be_given}
use Rattle.nfs_owners.proofs.Choosing.{first_slot}
use Rattle.nfs_owners.proofs.clients.Clients.free_slot.Goals as goal

pub returns : goal.returns
returns c =
    let test = can_be_given c.args.used.now c.args.self.now.registry in
    first_slot test c.find.result
    (first_from_Range _ _ _ _ (λ slot. test slot ≡ true) (λ slot. test slot ≡ false) c.find.ensures.ran (λ slot q called. search rules) (λ slot q called. search rules))
