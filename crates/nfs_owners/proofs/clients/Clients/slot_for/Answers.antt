use Rattle.std.proofs.Common.{◌≡◌, ◌∙◌, None, Some, ap, sym}
use Rattle.nfs_owners.specs.Choice.{free_slot, without_replaced}
use Rattle.nfs_owners.proofs.Choosing.{found_free, slot_free, slot_oldest}
use Rattle.nfs_owners.proofs.clients.Clients.slot_for.Goals as goal

pub returns-in-Some : goal.returns-in-Some
returns-in-Some c =
    let id = c.args.id.now in
    let registry = c.args.self.now.registry in
    sym (slot_free id registry c.in-Some.slot (sym (found_free c.used_slots-used.result id registry c.used_slots-used.ensures) ∙ sym c.in-Some.ensures))

pub returns-in_err-oldest : goal.returns-in_err-oldest
returns-in_err-oldest c =
    let id = c.args.id.now in
    let registry = c.args.self.now.registry in
    let none : free_slot (without_replaced id registry) ≡ None = sym (found_free c.used_slots-used.result id registry c.used_slots-used.ensures) ∙ sym c.free_slot.ensures ∙ c.in_default.is in
    c.from_residual.ensures ∙ sym (slot_oldest id registry None none (sym c.in_err-oldest.ensures))

pub returns : goal.returns
returns c =
    let id = c.args.id.now in
    let registry = c.args.self.now.registry in
    let none : free_slot (without_replaced id registry) ≡ None = sym (found_free c.used_slots-used.result id registry c.used_slots-used.ensures) ∙ sym c.free_slot.ensures ∙ c.in_default.is in
    ap Some c.slot.ensures.slot ∙ sym (slot_oldest id registry (Some c.in_ok-oldest.oldest.now) none (sym c.in_ok-oldest.ensures))
