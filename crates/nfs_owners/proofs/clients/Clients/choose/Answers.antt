use Rattle.std.proofs.Common.{◌≡◌, ◌∙◌, Some, true, ap, option_map, subst, sym}
use Rattle.nfs_owners.specs.Choice.{IsNextNumber, has_number_left, next_number}
use Rattle.nfs_owners.specs.Slots.{slot_of}
use Rattle.nfs_owners.proofs.Choosing.{is_next, slot_can}
use Rattle.nfs_owners.proofs.clients.Clients.choose.Goals as goal

pub next_number-requires : goal.next_number-requires
next_number-requires c =
    let can = slot_can c.args.id.now c.args.self.now.registry c.in_ok-slot.slot c.records_are_apart.ensures (sym c.in_ok-slot.ensures) in
    record { slot = can.below; left = can.left }

pub returns : goal.returns
returns c =
    let registry = c.args.self.now.registry in
    let can = slot_can c.args.id.now registry c.in_ok-slot.slot c.records_are_apart.ensures (sym c.in_ok-slot.ensures) in
    let next = is_next c.in_ok-slot.slot registry can in
    record {
      number = ap Some c.next_number.ensures ∙ ap (option_map (next_number registry)) c.in_ok-slot.ensures;
      next = subst (λ number. IsNextNumber number registry) (sym c.next_number.ensures) next.0;
      left = subst (λ number. has_number_left registry (slot_of number) ≡ true) (sym c.next_number.ensures) next.1;
    }
