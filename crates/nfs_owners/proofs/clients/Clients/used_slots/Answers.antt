use Rattle.std.proofs.Common.{◌≡◌, ◌∙◌, ◌||◌, ℕ, List, ap, map, subst, sym}
use Rattle.nfs_owners.specs.Choice.{is_in_use, is_live_slot, without_replaced}
use Rattle.nfs_owners.specs.ClientRoom.{RoomyClients}
use Rattle.nfs_owners.specs.Registry.{without_id}
use Rattle.nfs_owners.specs.declared.client_record.ClientRecord.{ClientRecord}
use Rattle.nfs_owners.proofs.SlotMarks.{MarksWith, marks_all, own_next, slots_of}
use Rattle.nfs_owners.proofs.clients.Clients.used_slots.Goals as goal

abbrev others : List ℕ → List (ℕ × ClientRecord) → List ClientRecord
others id items = without_id id (map (λ item. item.1) items)

pub loop-record-init : goal.loop-record-init
loop-record-init c =
    let id = c.args.id.now in
    let registry = c.args.self.now.registry in
    let all : others id c.into_iter-record-iterator.result ≡ without_id id registry.unconfirmed =
    ap (others id) c.into_iter-record-iterator.ensures.into_iter_gives ∙ ap (without_id id) (c.iter-record-items.ensures ∙ ap (λ (s : RoomyClients). s.registry.unconfirmed) c.self.view_is) in
    record {
      can = tt;
      finite = tt;
      marks = (
        c.requires.0,
        λ slot low. ap (λ mark. mark || slots_of (others id c.into_iter-record-iterator.result) slot) (c.requires.1 slot low)
            ∙ ap (λ records. is_live_slot registry slot || slots_of records slot) all,
      );
    }

pub loop-record-preserved : goal.loop-record-preserved
loop-record-preserved c =
    let id = c.args.id.now in
    let rest = map (λ (item : ℕ × ClientRecord). item.1) c.next.new.self in
    let own = own_next id c.in-Some.record.now rest (sym c.is_of.ensures ∙ c.if-not-is_of.false) in
    record {
      can = tt;
      finite = tt;
      marks = subst (λ records. MarksWith (slots_of records) (is_in_use (without_replaced id c.args.self.now.registry)) c.loop-record.used) (ap (others id) c.in-Some.ensures.steps ∙ own) c.loop-record.invariant.marks;
    }

pub returns : goal.returns
returns c =
    let id = c.args.id.now in
    let test = is_in_use (without_replaced id c.args.self.now.registry) in
    marks_all test c.loop-record.used (subst (λ items. MarksWith (slots_of (others id items)) test c.loop-record.used) c.in-None.ensures.steps.0 c.loop-record.invariant.marks)
