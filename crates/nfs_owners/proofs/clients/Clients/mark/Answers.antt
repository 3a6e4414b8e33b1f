use Rattle.nfs_owners.specs.Registry.{Registry}
use Rattle.nfs_owners.specs.laws.Marks.{mark_keeps_records}
use Rattle.nfs_owners.proofs.clients.Clients.mark.Goals as goal

pub invariant_of-self : goal.invariant_of-self
invariant_of-self c =
    let old : Registry = record {
      confirmed = c.self.inside.confirmed.records;
      unconfirmed = c.self.inside.unconfirmed.records;
      given = c.self.inside.given;
      last_confirm = c.self.inside.last_confirm;
    } in
    rw c.mark.ensures.records (mark_keeps_records c.args.number c.args.path old c.self.invariant)
