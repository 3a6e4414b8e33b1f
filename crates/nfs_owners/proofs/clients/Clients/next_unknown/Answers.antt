use Rattle.std.proofs.Common.{◌∙◌, ap, option_copied, rules, subst, sym}
use Rattle.nfs_owners.specs.ClientRoom.{RoomyClients}
use Rattle.nfs_owners.specs.LiveClients.{IsNextUnknown, has_unknown_path}
use Rattle.nfs_owners.specs.Registry.{Registry, record_state}
use Rattle.nfs_owners.proofs.LiveNumbers.{unknown_is_next}
use Rattle.nfs_owners.proofs.clients.Clients.next_unknown.Goals as goal

pub returns : goal.returns
returns c =
    let number = c.in_ok-number.number in
    let inside : Registry = record {
      confirmed = c.self.inside.confirmed.records;
      unconfirmed = c.self.inside.unconfirmed.records;
      given = c.self.inside.given;
      last_confirm = c.self.inside.last_confirm;
    } in
    let next = c.in_ok-number.ensures has_unknown_path (λ shown answer called. search rules) in
    subst (λ (s : RoomyClients). IsNextUnknown c.args.after s.registry (option_copied c.state_of.result)) c.self.view_is
    (subst (IsNextUnknown c.args.after inside) (sym (c.state_of.ensures ∙ ap record_state c.of_client.ensures.found)) (unknown_is_next c.args.after number inside c.of_client.ensures.apart next))
