use Rattle.std.proofs.Common.{◌∙◌, ap, rules, subst, true}
use Rattle.nfs_owners.specs.ClientRoom.{RoomyClients}
use Rattle.nfs_owners.specs.LiveClients.{IsNextAmong}
use Rattle.nfs_owners.proofs.LiveNumbers.{filter_any}
use Rattle.nfs_owners.proofs.clients.Clients.next_live.Goals as goal

pub returns : goal.returns
returns c =
    subst (λ records. IsNextAmong c.args.after records c.next_client.result)
    (filter_any c.self.inside.confirmed.records ∙ ap (λ (s : RoomyClients). s.registry.confirmed) c.self.view_is)
    (c.next_client.ensures (λ r. true) (λ shown answer called. search rules))
