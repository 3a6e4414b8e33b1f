use Rattle.std.specs.Prelude.{Bool, not}
use Rattle.nfs_owners.specs.Registry.{Registry, is_of_client, without_number}
use Rattle.nfs_owners.specs.declared.client_record.ClientRecord.{ClientRecord}
use Rattle.nfs_owners.proofs.ClientLists.{without_confirmed, without_unconfirmed}
use Rattle.nfs_owners.proofs.clients.Clients.remove.Goals as goal

pub invariant_of-self : goal.invariant_of-self
invariant_of-self c =
    let old : Registry = record {
      confirmed = c.self.inside.confirmed.records;
      unconfirmed = c.self.inside.unconfirmed.records;
      given = c.self.inside.given;
      last_confirm = c.self.inside.last_confirm;
    } in
    let stays : ClientRecord → Bool = λ r. not (is_of_client c.args.number r) in
    rw c.remove_client.ensures.records (rw c.remove_client-2.ensures.records
    (without_unconfirmed stays (record old { confirmed = without_number c.args.number old.confirmed }) (without_confirmed stays old c.self.invariant)))
