use Rattle.std.proofs.Common.{◌≡◌, ◌∙◌, ℕ, List, false, true, ap, find, map, not, subst, sym}
use Rattle.std.proofs.lemmas.Bool.{and_from, and_left, and_right}
use Rattle.nfs_owners.specs.Choice.{can_be_given}
use Rattle.nfs_owners.specs.ClientRoom.{RoomyClients}
use Rattle.nfs_owners.specs.Registry.{AreRecords, is_of}
use Rattle.nfs_owners.specs.Slots.{slot_of}
use Rattle.nfs_owners.specs.declared.client_record.ClientRecord.{ClientRecord}
use Rattle.nfs_owners.proofs.Choosing.{found_oldest, goes, goes_by_marks}
use Rattle.nfs_owners.proofs.Lists.{find_step}
use Rattle.nfs_owners.proofs.clients.Clients.oldest_to_give_way.Goals as goal
use Rattle.nfs_owners.proofs.clients.Clients.oldest_to_give_way.Goals.{else-not-is_of-via-then-not-is_of+else-can_be_given, else-not-is_of-via-else-not-is_of}

abbrev values : List (ℕ × ClientRecord) → List ClientRecord
values items = map (λ item. item.1) items

pub loop-record-init : goal.loop-record-init
loop-record-init c = record {
  can = tt;
  finite = tt;
  rest = ap (find (goes c.args.id.now c.args.self.now.registry))
      (ap values c.into_iter-record-iterator.ensures.into_iter_gives ∙ c.iter-record-items.ensures ∙ ap (λ (s : RoomyClients). s.registry.unconfirmed) c.self.view_is);
}

pub loop-record-preserved : goal.loop-record-preserved
loop-record-preserved c =
    let id = c.args.id.now in
    let live = c.args.live.now in
    let registry = c.args.self.now.registry in
    let r = c.in-Some.record.now in
    let by_marks = goes_by_marks live id registry r c.requires in
    let stays : goes id registry r ≡ false = elim c.else-not-is_of.branch [
      | else-not-is_of-via-then-not-is_of+else-can_be_given w ↦
          by_marks ∙ and_right (not (is_of id r)) (can_be_given live registry (slot_of r.state.client.number))
          (ap (can_be_given live registry) (sym w.slot.ensures.slot) ∙ sym w.can_be_given.ensures ∙ w.if-can_be_given.false)
      | else-not-is_of-via-else-not-is_of w ↦
          by_marks ∙ and_left (not (is_of id r)) (can_be_given live registry (slot_of r.state.client.number)) (ap not (sym c.is_of.ensures ∙ w.if-not-is_of.false))
    ] in
    record {
      can = tt;
      finite = tt;
      rest = find_step (goes id registry) r (values c.loop-record.record-iterator) (values c.next.new.self) (find (goes id registry) registry.unconfirmed) false
          (ap values c.in-Some.ensures.steps) c.loop-record.invariant.rest stays;
    }

pub returns-then-can_be_given : goal.returns-then-can_be_given
returns-then-can_be_given c =
    let id = c.args.id.now in
    let live = c.args.live.now in
    let registry = c.args.self.now.registry in
    let r = c.in-Some.record.now in
    let passes : goes id registry r ≡ true =
    goes_by_marks live id registry r c.requires
    ∙ and_from (not (is_of id r)) (can_be_given live registry (slot_of r.state.client.number)) (ap not (sym c.is_of.ensures ∙ c.if-not-is_of.true))
    (ap (can_be_given live registry) (sym c.slot.ensures.slot) ∙ sym c.can_be_given.ensures ∙ c.if-can_be_given.true) in
    find_step (goes id registry) r (values c.loop-record.record-iterator) (values c.next.new.self) (find (goes id registry) registry.unconfirmed) true
    (ap values c.in-Some.ensures.steps) c.loop-record.invariant.rest passes
    ∙ sym (found_oldest id registry (subst (λ (s : RoomyClients). AreRecords s.registry) c.self.view_is c.self.invariant))

pub returns : goal.returns
returns c =
    let id = c.args.id.now in
    let registry = c.args.self.now.registry in
    ap (λ items. find (goes id registry) (values items)) (sym c.in-None.ensures.steps.0)
    ∙ c.loop-record.invariant.rest
    ∙ sym (found_oldest id registry (subst (λ (s : RoomyClients). AreRecords s.registry) c.self.view_is c.self.invariant))
