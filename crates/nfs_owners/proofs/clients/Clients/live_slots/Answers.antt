use Rattle.std.proofs.Common.{◌≡◌, ◌∙◌, ℕ, List, false, ap, map, replicate, subst, sym}
use Rattle.nfs_owners.specs.Choice.{is_live_slot}
use Rattle.nfs_owners.specs.ClientRoom.{RoomyClients}
use Rattle.nfs_owners.specs.declared.client_record.ClientRecord.{ClientRecord}
use Rattle.nfs_owners.specs.declared.slots.TheConstants.{SLOTS}
use Rattle.nfs_owners.proofs.SlotMarks.{MarksWith, marks_all, marks_next, marks_none, slots_of}
use Rattle.nfs_owners.proofs.clients.Clients.live_slots.Goals as goal

abbrev values : List (ℕ × ClientRecord) → List ClientRecord
values items = map (λ item. item.1) items

pub loop-record-init : goal.loop-record-init
loop-record-init c =
    let registry = c.args.self.now.registry in
    let all : values c.into_iter-record-iterator.result ≡ registry.confirmed =
    ap values c.into_iter-record-iterator.ensures.into_iter_gives ∙ c.iter-record-items.ensures ∙ ap (λ (s : RoomyClients). s.registry.confirmed) c.self.view_is in
    record {
      can = tt;
      finite = tt;
      marks = subst (λ records. MarksWith (slots_of records) (is_live_slot registry) (replicate SLOTS false)) (sym all) (marks_none (is_live_slot registry));
    }

pub loop-record-preserved : goal.loop-record-preserved
loop-record-preserved c = record {
  can = tt;
  finite = tt;
  marks = marks_next c.in-Some.record.now (values c.loop-record.record-iterator) (values c.next.new.self) (is_live_slot c.args.self.now.registry) c.loop-record.live c.slot.result
      (ap values c.in-Some.ensures.steps) c.slot.ensures.slot c.loop-record.invariant.marks;
}

pub returns : goal.returns
returns c =
    let test = is_live_slot c.args.self.now.registry in
    marks_all test c.loop-record.live (subst (λ items. MarksWith (slots_of (values items)) test c.loop-record.live) c.in-None.ensures.steps.0 c.loop-record.invariant.marks)
