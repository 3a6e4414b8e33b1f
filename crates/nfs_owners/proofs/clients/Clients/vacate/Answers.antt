use Rattle.std.proofs.Common.{◌≡◌, ◌∙◌, ◌+◌, Bool, ap, arith, not, subst, sym}
use Rattle.nfs_owners.specs.Choice.{IsNextNumber, without_unconfirmed_of}
use Rattle.nfs_owners.specs.ClientRoom.{RoomyClients}
use Rattle.nfs_owners.specs.Registry.{AreRecords, Registry, is_of_client}
use Rattle.nfs_owners.specs.Slots.{slot_of}
use Rattle.nfs_owners.specs.declared.client_record.ClientRecord.{ClientRecord}
use Rattle.nfs_owners.specs.declared.slots.TheConstants.{SLOTS}
use Rattle.nfs_owners.proofs.ClientLists.{without_unconfirmed}
use Rattle.nfs_owners.proofs.Numbering.{vacant, vacated}
use Rattle.nfs_owners.proofs.clients.Clients.vacate.Goals as goal

abbrev old_of : (c : goal.After-remove_client) → Registry
old_of c = record {
  confirmed = c.self.inside.confirmed.records;
  unconfirmed = c.self.inside.unconfirmed.records;
  given = c.self.inside.given;
  last_confirm = c.self.inside.last_confirm;
}

pub invariant_of-self : goal.invariant_of-self
invariant_of-self c =
    let stays : ClientRecord → Bool = λ r. not (is_of_client c.in-Some.last r) in
    rw c.remove_client.ensures.records (without_unconfirmed stays (old_of c) c.self.invariant)

pub returns-in-Some-clause-registry : goal.returns-in-Some-clause-registry
returns-in-Some-clause-registry c =
    let before : c.args.next ≡ c.in-Some.last + SLOTS = omega (arith, c.in-Some.ensures) in
    let is = subst (λ (s : RoomyClients). IsNextNumber c.args.next s.registry) (sym c.self.view_is) c.requires in
    ap (λ records. record (old_of c) { unconfirmed = records }) (c.remove_client.ensures.records ∙ vacated c.args.next c.in-Some.last (old_of c) c.self.invariant is before)
    ∙ ap (λ (s : RoomyClients). without_unconfirmed_of (slot_of c.args.next) s.registry) c.self.view_is

pub returns-in_default-clause-registry : goal.returns-in_default-clause-registry
returns-in_default-clause-registry c =
    let registry = c.args.self.now.registry in
    ap (λ records. record registry { unconfirmed = records })
    (vacant c.args.next registry (subst (λ (s : RoomyClients). AreRecords s.registry) c.self.view_is c.self.invariant) c.requires (omega (arith, c.in_default.ensures)))
