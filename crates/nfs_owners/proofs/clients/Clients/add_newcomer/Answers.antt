use Rattle.std.proofs.Common.{◌≡◌, ◌∙◌, ◌+◌, false, ap, slice_index, slice_set, subst, sym}
use Rattle.std.specs.List.{list_any}
use Rattle.nfs_owners.specs.ClientChange.{with_newcomer, with_unconfirmed}
use Rattle.nfs_owners.specs.ClientRoom.{RoomyClients}
use Rattle.nfs_owners.specs.Choice.{without_unconfirmed_of}
use Rattle.nfs_owners.specs.Registry.{AreRecords, Registry, takes_number}
use Rattle.nfs_owners.specs.Slots.{slot_of}
use Rattle.nfs_owners.proofs.Numbering.{newcomer_takes_none, records_newcomer, with_one_more}
use Rattle.nfs_owners.proofs.clients.Clients.add_newcomer.Goals as goal

-- what was there once the record of the slot had gone
abbrev left_of : (c : goal.After-put-arg-1) → Registry
left_of c = record {
  confirmed = c.self.inside.confirmed.records;
  unconfirmed = c.self.inside.unconfirmed.records;
  given = c.self.inside.given;
  last_confirm = c.self.inside.last_confirm;
}

pub put-requires-clause-own : goal.put-requires-clause-own
put-requires-clause-own c =
    let r = c.args.newcomer in
    let left : left_of c ≡ without_unconfirmed_of (slot_of r.state.client.number) c.args.self.now.registry = ap (λ (s : RoomyClients). s.registry) c.self.view_is ∙ c.vacate.ensures.registry in
    subst (λ (s : Registry). list_any (takes_number r.id r.state.client.number) s.unconfirmed ≡ false) (sym left) (newcomer_takes_none r c.args.self.now.registry)

-- the records after the change
after : (c : goal.After-put)
    → record {
      confirmed = c.self.inside.confirmed.records;
      unconfirmed = c.put.new.self.records;
      given = slice_set c.self.inside.given c.slot_of.result (slice_index c.self.inside.given c.slot_of.result + 1);
      last_confirm = c.self.inside.last_confirm + 1;
    } ≡ with_newcomer c.args.newcomer c.args.self.now.registry
after c =
    let r = c.args.newcomer in
    let slot = slot_of r.state.client.number in
    let inside : Registry = record {
      confirmed = c.self.inside.confirmed.records;
      unconfirmed = c.self.inside.unconfirmed.records;
      given = c.self.inside.given;
      last_confirm = c.self.inside.last_confirm;
    } in
    let left : inside ≡ without_unconfirmed_of slot c.args.self.now.registry = ap (λ (s : RoomyClients). s.registry) c.self.view_is ∙ c.vacate.ensures.registry in
    ap (λ records. record (with_one_more c.slot_of.result inside) { unconfirmed = records }) c.put.ensures
    ∙ ap (λ s. with_unconfirmed r (with_one_more s inside)) c.slot_of.ensures.slot
    ∙ ap (λ registry. with_unconfirmed r (with_one_more slot registry)) left

pub invariant_of-self : goal.invariant_of-self
invariant_of-self c =
    let r = c.args.newcomer in
    let are = subst (λ (s : RoomyClients). AreRecords s.registry) c.self.view_is c.self.invariant in
    subst AreRecords (sym (after c)) (records_newcomer r c.args.self.now.registry (subst AreRecords c.vacate.ensures.registry are) c.requires.next)

pub returns : goal.returns
returns c = after c
